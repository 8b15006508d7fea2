use Rattle.langtag_keyword.proofs.Common.{◌≡◌, ◌++◌, [], append-nil, drop, length, ap, ◌∙◌, arith, drop_all, spell}
use Rattle.std.proofs.lemmas.List.{take_at}
use Rattle.langtag_text.specs.RecommendedCase.{recommended_text}
use Rattle.langtag_likely.specs.Marked.{as_read}
use Rattle.langtag_locale.specs.LocaleForm.{locale_record, locale_text}
use Rattle.langtag_locale.proofs.IdentifierForms.{same_length}
use Rattle.langtag_locale.proofs.canonical_locale.counted_form_bytes.Goals as goal

-- the second call has just the room for the text, and its case is changed in place
pub returns : goal.returns
unfolding locale_text
returns c = λ r spells.
    let text = spell (locale_record (as_read r)) in
    let before = c.deref_mut.result.now in
    let n = c.in_ok-bytes.bytes.len in
    let first = c.put_parts.ensures r spells in
    let second = c.put_parts-2.ensures r spells in
    let same : n ≡ length text = omega (arith, first.counted, c.in_ok-bytes.ensures.len, c.in_ok-bytes.bytes.ok) in
    let room : length before ≡ length text = omega (arith, same, ap length c.deref_mut.ensures.value, c.in_ok-bytes.bytes.ok) in
    let none : drop (length text) before ≡ [] = drop_all (length text) before (omega (arith, room)) in
    let whole : c.put_parts-2.new.buffer ≡ text = second.written (omega (arith, room)) ∙ ap (λ t. text ++ t) none ∙ append-nil text in
    let put = take_at c.put_parts-2.new.buffer _ n (omega (arith, ap length whole, same)) ∙ whole in
    let is : c.make_recommended_case.new.text ≡ locale_text (as_read r) = c.make_recommended_case.ensures.case ∙ ap recommended_text (c.deref_mut-2.ensures.value ∙ put) in
    take_at c.make_recommended_case.new.text _ n (omega (arith, ap length is, same_length (as_read r), same)) ∙ is
