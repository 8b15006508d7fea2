use Rattle.langtag_keyword.proofs.Common.{◌≡◌, ◌++◌, [], append-nil, drop, length, sym, ap, subst, ◌∙◌, arith, drop_all, extensions_record}
use Rattle.std.proofs.lemmas.List.{take_at}
use Rattle.langtag.specs.Definitions.{lang_tag_text, IsForm}
use Rattle.langtag.proofs.FormLaws.{one_form}
use Rattle.langtag_unicode.proofs.form.counted_form_bytes.Goals as goal

-- both calls write the one form, and the second one has just the room for it
pub returns : goal.returns
returns c =
    let before = c.deref_mut.result.now in
    let after = c.write_extensions_form-2.new.buffer in
    let n = c.in_ok-bytes.bytes.len in
    let first = c.write_extensions_form.ensures.form in
    let second = c.write_extensions_form-2.ensures.form in
    let one = one_form extensions_record (lang_tag_text c.args.tag) first.text second.text first.is_so second.is_so in
    let same : n ≡ length second.text = omega (arith, first.whole, c.in_ok-bytes.ensures.len, c.in_ok-bytes.bytes.ok, ap length one) in
    let room : length before ≡ length second.text = omega (arith, same, ap length c.deref_mut.ensures.value, c.in_ok-bytes.bytes.ok) in
    let none : drop (length second.text) before ≡ [] = drop_all (length second.text) before (omega (arith, room)) in
    let whole : after ≡ second.text = second.written (omega (arith, room)) ∙ ap (λ t. second.text ++ t) none ∙ append-nil second.text in
    subst (IsForm extensions_record (lang_tag_text c.args.tag)) (sym (take_at after _ n (omega (arith, ap length whole, same)) ∙ whole)) second.is_so
