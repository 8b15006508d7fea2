use Rattle.langtag_scan.proofs.Prelude.{◌≡◌, ◌≤◌, ◌∷◌, ◌++◌, [], length, sym, ap, subst, ◌∙◌, arith, append_assoc, nil_from_length}
use Rattle.langtag_text.specs.Output.{HasText}
use Rattle.langtag_text.proofs.WithSubtag.{with_subtag-none, with_subtag-some}
use Rattle.langtag_text.proofs.output.Output.push_subtag.Goals as goal
use Rattle.langtag_text.proofs.output.Output.push_subtag.Goals.{then-self-gt0, else-self-gt0}

pub returns : goal.returns
returns c = λ first text has.
    let subtag = c.args.subtag.now in
    elim c.if-self-gt0.branch [
      | then-self-gt0 w ↦
          let dash : HasText first c.if-self-gt0.self (text ++ 45 ∷ []) =
          subst (λ out. HasText first out (text ++ 45 ∷ [])) (sym w.self-is) (w.push.ensures first text has) in
          let more : 1 ≤ length text = omega (arith, has.counted, w.if-self-gt0.true) in
          subst (HasText first c.push-2.new.self) (append_assoc text (45 ∷ []) subtag ∙ sym (with_subtag-some text subtag more))
          (c.push-2.ensures first (text ++ 45 ∷ []) dash)
      | else-self-gt0 w ↦
          let here : HasText first c.if-self-gt0.self text = subst (λ out. HasText first out text) (sym w.self-is) has in
          let none : length text ≡ 0 = omega (arith, has.counted, w.if-self-gt0.false) in
          subst (HasText first c.push-2.new.self) (ap (λ t. t ++ subtag) (nil_from_length text none) ∙ sym (with_subtag-none text subtag none))
          (c.push-2.ensures first text here)
    ]
