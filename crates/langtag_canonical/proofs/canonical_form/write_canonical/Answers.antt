use Rattle.langtag_scan.proofs.Prelude.{◌≡◌, ◌≤◌, ◌++◌, drop, length, take, refl, ap, ◌∙◌, arith}
use Rattle.std.proofs.Math.Seq.{take-append_seam}
use Rattle.std.proofs.lemmas.Slice.{drop-append-drop}
use Rattle.std.proofs.lemmas.Bool.Decides.{nat_tests}
use Rattle.langtag_text.specs.RecommendedCase.{recommended_text}
use Rattle.langtag_canonical.proofs.CanonicalCase.{recommended-length}
use Rattle.langtag_canonical.proofs.canonical_form.write_canonical.Goals as goal

pub returns-then-len-buffer-clause-canonical : goal.returns-then-len-buffer-clause-canonical
returns-then-len-buffer-clause-canonical c =
    let steps = c.write_replaced-len.ensures.steps in
    record {
      text = recommended_text steps.text;
      is_so = record { form = steps.text; steps = steps.is_so; case = refl };
      whole = omega (arith, steps.whole, recommended-length steps.text);
      written = λ room. absurd (omega (arith, room, recommended-length steps.text, steps.whole, c.if-len-buffer.true, c.write_replaced-len.auto.buffer));
    }

pub returns-clause-canonical : goal.returns-clause-canonical
returns-clause-canonical c =
    let steps = c.write_replaced-len.ensures.steps in
    let before = c.args.buffer.now in
    let after = c.write_replaced-len.new.buffer in
    let text = steps.text in
    let n = c.write_replaced-len.result in
    let fits : length text ≤ length before = omega (arith, steps.whole, c.if-len-buffer.false, c.write_replaced-len.auto.buffer) in
    let same : n ≡ length text = omega (arith, steps.whole, fits) in
    let written : after ≡ text ++ drop (length text) before = steps.written fits in
    let start : take n after ≡ text = ap (λ k. take k after) same ∙ ap (take (length text)) written ∙ take-append_seam text (drop (length text) before) in
    let rest : drop n after ≡ drop n before = ap (drop n) written ∙ drop-append-drop (length text) before text n (omega (arith, same)) refl in
    let whole : n ≡ length (recommended_text text) = omega (arith, same, recommended-length text) in
    record {
      text = recommended_text text;
      is_so = record { form = text; steps = steps.is_so; case = refl };
      whole = omega (arith, steps.whole, recommended-length text);
      written = λ room.
          ap (λ t. t ++ drop n after) (c.make_recommended_case.ensures.case ∙ ap recommended_text start) ∙ ap (λ t. recommended_text text ++ t) rest
          ∙ ap (λ k. recommended_text text ++ drop k before) whole;
    }
