use Rattle.langtag_scan.proofs.Prelude.{◌≡◌, eqb_tells, ◌+◌, ◌<◌, ◌∷◌, Some, None, arith, cases_lt, inl, inr, sym, ap, subst, ◌∙◌, get_or, get_or_past, get_or_from_slice_get}
use Rattle.std.proofs.lemmas.Grind.{get_or-set_at}
use Rattle.std.proofs.lemmas.List.{get_or-set_other}
use Rattle.langtag_range.specs.Definitions.{listed_element}
use Rattle.langtag_choice.specs.Refusals.{IsLongestBefore, nothing_read}
use Rattle.langtag_choice.proofs.by_tags.read_for_refusals.Goals.{then-free-offset, else-free-offset}
use Rattle.langtag_choice.proofs.by_tags.read_for_refusals.Goals as goal

pub loop-offset-preserved : goal.loop-offset-preserved
loop-offset-preserved g c =
    let offset = c.loop-offset.offset in
    let longest = c.loop-offset.longest in
    let texts = g.T.TagList.texts c.args.tags.now in
    elim c.if-free-offset.branch [
      | then-free-offset w ↦ record {
        long = c.if-free-offset.array_long;
        after = λ k past. grind (arith, w.longest-is, get_or-set_other, c.loop-offset.invariant.after k);
        before = λ k elements others tag below set there was. elim (cases_lt k offset) [
          | inl earlier ↦
              let before = c.loop-offset.invariant.before k elements others tag earlier set there was in
              grind (arith, w.longest-is, get_or-set_other, before)
          | inr past ↦
              let same : k ≡ offset = omega (arith, below, past) in
              let within : offset < 64 = c.loop-offset-test.true in
              let read : get_or c.args.longest.now k nothing_read ≡ w.lengths_at-lengths.result =
              ap (λ j. get_or c.args.longest.now j nothing_read) same ∙ sym (c.loop-offset.invariant.after offset (omega arith)) ∙ sym w.lengths_at-lengths.ensures in
              let here : get_or texts (c.args.start + offset) None ≡ Some tag =
              ap (λ j. get_or texts (c.args.start + j) None) (sym same) ∙ get_or_from_slice_get texts (c.args.start + k) (Some tag) None there in
              let text = w.bytes_at.ensures tag here in
              subst (IsLongestBefore elements others tag)
              (sym (ap (λ all. get_or all k nothing_read) w.longest-is ∙ get_or-set_at longest offset k w.with.result nothing_read same (omega (arith, within, c.loop-offset.invariant.long))))
              (subst (λ own. IsLongestBefore elements others own w.with.result) text
              (w.with.ensures elements others
              (subst (λ own. IsLongestBefore elements (listed_element c.args.range ∷ others) own w.lengths_at-lengths.result) (sym text)
              (subst (IsLongestBefore elements (listed_element c.args.range ∷ others) tag) read was))))
        ];
      }
      | else-free-offset w ↦ record {
        long = c.if-free-offset.array_long;
        after = λ k past. grind (arith, w.longest-is, c.loop-offset.invariant.after k);
        before = λ k elements others tag below set there was.
            let before = c.loop-offset.invariant.before k elements others tag in
            grind (arith, w.longest-is, before, w.if-free-offset.false, eqb_tells k offset);
      }
    ]

pub returns : goal.returns
returns g c = λ elements others read k tag set there.
    grind (arith, c.loop-offset.invariant.before k elements others tag, read k tag, c.told-free, get_or_past, cases_lt k 64)
