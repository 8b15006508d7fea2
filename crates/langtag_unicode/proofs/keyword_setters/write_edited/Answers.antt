use Rattle.std.proofs.Common.{refl, sym, ◌∙◌}
use Rattle.langtag.specs.Text.{lang_tag_text}
use Rattle.langtag.proofs.FormLaws.{record_form, record_written}
use Rattle.langtag_scan.specs.Tag.{IsNormal}
use Rattle.langtag_keyword.specs.EditText.{edited_record_by}
use Rattle.langtag_unicode.proofs.keyword_setters.write_edited.Goals as goal

pub returns-in-Some-clause-written : goal.returns-in-Some-clause-written
unfolding IsNormal
returns-in-Some-clause-written c = λ short.
    let (r, spells) = c.in-Some.ensures.kind.0 refl in
    let form = edited_record_by c.args.edit in
    record_written form _ _ _ _ _ r spells refl
    (c.write_edited_parts.ensures r (spells.0, spells.1 ∙ sym c.in-Some.ensures.same_text) (short _ (record_form form (lang_tag_text c.args.tag) _ r spells refl)))
