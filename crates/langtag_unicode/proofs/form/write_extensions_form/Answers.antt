use Rattle.std.proofs.lemmas.Bool.Decides.{nat_tests}
use Rattle.langtag_keyword.proofs.Common.{refl, sym, ◌∙◌, arith, spell, extensions_record}
use Rattle.langtag.proofs.FormLaws.{kept_form, record_form}
use Rattle.langtag_scan.specs.Tag.{IsNormal}
use Rattle.langtag_unicode.proofs.form.write_extensions_form.Goals as goal

pub returns-in-Some : goal.returns-in-Some
unfolding IsNormal
returns-in-Some c =
    let (r, spells) = c.in-Some.ensures.kind.0 refl in
    let put = c.put_parts.ensures r (spells.0, spells.1 ∙ sym c.in-Some.ensures.same_text) in
    record { form = record { text = spell (extensions_record r); is_so = record_form extensions_record _ _ r spells refl; whole = put.counted; written = put.written } }

pub returns-in-None : goal.returns-in-None
returns-in-None c = grind (arith, nat_tests, c.write_text.ensures, kept_form extensions_record, c.in-None.ensures.kind.1, c.as_bytes.ensures)
