use Rattle.std.proofs.Common.{Some, ap, ◌∙◌, option_map}
use Rattle.langtag_cldr.specs.Texts.{field_texts}
use Rattle.langtag_cldr.proofs.FieldClasses.{fields_plain}
use Rattle.langtag_cldr.proofs.TableRows.{index_searched}
use Rattle.langtag_cldr.proofs.RowLaws.{other_found}
use Rattle.langtag_cldr.proofs.rows.other_row.Goals as goal

pub returns-in_err-index : goal.returns-in_err-index
returns-in_err-index c =
    ap (option_map field_texts) c.from_residual.ensures
    ∙ other_found (field_texts c.args.key) _ _ _ (fields_plain _ c.args.key.language_class c.args.key.script_class c.args.key.region_class) c.other_keys.ensures.numbers c.key_number.ensures (c.in_err-index.ensures.value ∙ index_searched c.other_keys.result.now c.key_number.result _ c.other_keys.ensures.climbs c.binary_search.ensures.position)

pub returns : goal.returns
returns c =
    ap Some c.other_fields.ensures
    ∙ other_found (field_texts c.args.key) _ _ _ (fields_plain _ c.args.key.language_class c.args.key.script_class c.args.key.region_class) c.other_keys.ensures.numbers c.key_number.ensures (c.in_ok-index.ensures.value ∙ index_searched c.other_keys.result.now c.key_number.result _ c.other_keys.ensures.climbs c.binary_search.ensures.position)
