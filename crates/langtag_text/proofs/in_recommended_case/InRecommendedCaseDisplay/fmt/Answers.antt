use Rattle.langtag_scan.proofs.Prelude.{◌++◌, ◌∷◌, append_assoc, rules, subst, sym, ap, ◌∙◌, encode_utf8, arith, IsAscii, encode_ascii, common_steps}
use Rattle.std.proofs.Output.{has_written_append}
use Rattle.std.proofs.lemmas.Str.{IsAscii-drop}
use Rattle.langtag_text.proofs.RecommendedLaws.{recommended-ascii}
use Rattle.langtag_text.proofs.in_recommended_case.InRecommendedCaseDisplay.fmt.Goals as goal

pub loop-byte-init : goal.loop-byte-init
loop-byte-init g c = grind (arith, common_steps, recommended-ascii c.args.self.now.text.now c.args.self.now.ascii)

pub loop-byte-preserved : goal.loop-byte-preserved
loop-byte-preserved g c =
    let step = c.in-Some.ensures.steps in
    let ascii = subst IsAscii step c.loop-byte.invariant.0 in (
      IsAscii-drop (c.in-Some.byte ∷ c.next.new.self) 1 ascii,
      λ plain.
          let now = c.loop-byte.invariant.1 plain in (
            now.0 ++ encode_utf8 c.from.result,
            has_written_append _ _ _ _ _ _ now.1 (search rules),
            append_assoc now.0 (encode_utf8 c.from.result) c.next.new.self
                ∙ ap (λ bytes. now.0 ++ (bytes ++ c.next.new.self)) (ap encode_utf8 c.from.ensures ∙ encode_ascii c.in-Some.byte (ascii 0))
                ∙ ap (λ bytes. now.0 ++ bytes) (sym step) ∙ now.2,
          ),
    )
