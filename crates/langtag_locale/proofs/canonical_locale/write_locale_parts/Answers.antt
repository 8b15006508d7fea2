use Rattle.std.proofs.lemmas.Bool.Decides.{nat_tests}
use Rattle.langtag_keyword.proofs.Common.{◌≡◌, ◌≤◌, ◌++◌, drop, length, take, refl, ap, ◌∙◌, arith, spell}
use Rattle.std.proofs.Math.Seq.{take-append_seam}
use Rattle.std.proofs.lemmas.Slice.{drop-append-drop}
use Rattle.langtag_text.specs.RecommendedCase.{recommended_text}
use Rattle.langtag_likely.specs.Marked.{as_read}
use Rattle.langtag_locale.specs.LocaleForm.{locale_record, locale_text}
use Rattle.langtag_locale.proofs.IdentifierForms.{same_length}
use Rattle.langtag_locale.proofs.canonical_locale.write_locale_parts.Goals as goal

pub returns : goal.returns
unfolding locale_text
returns c = λ r spells.
    let before = c.args.buffer.now in
    let after = c.put_parts-len.new.buffer in
    let text = spell (locale_record (as_read r)) in
    let n = c.put_parts-len.result in
    let put = c.put_parts-len.ensures r spells in
    let fits : length text ≤ length before = omega (arith, put.counted, c.if-len-buffer.false, c.put_parts-len.auto.buffer) in
    let same : n ≡ length text = omega (arith, put.counted, fits) in
    let written : after ≡ text ++ drop (length text) before = put.written fits in
    let start : take n after ≡ text = ap (λ k. take k after) same ∙ ap (take (length text)) written ∙ take-append_seam text (drop (length text) before) in
    let rest : drop n after ≡ drop n before = ap (drop n) written ∙ drop-append-drop (length text) before text n (omega (arith, same)) refl in
    let whole : n ≡ length (locale_text (as_read r)) = omega (arith, same, same_length (as_read r)) in
    record {
      text = locale_text (as_read r);
      is_so = refl;
      whole = omega (arith, put.counted, same_length (as_read r));
      written = λ room.
          ap (λ t. t ++ drop n after) (c.make_recommended_case.ensures.case ∙ ap recommended_text start) ∙ ap (λ t. recommended_text text ++ t) rest
          ∙ ap (λ k. recommended_text text ++ drop k before) whole;
    }

pub returns-then-len-buffer : goal.returns-then-len-buffer
returns-then-len-buffer c = grind (arith, nat_tests, c.put_parts-len.ensures, same_length, c.if-len-buffer.true, c.put_parts-len.auto.buffer)
