use Rattle.std.proofs.Common.{Some, ap, ◌∙◌, option_map}
use Rattle.langtag_cldr.specs.Definitions.{field_texts}
use Rattle.langtag_cldr.proofs.TableRows.{index_searched}
use Rattle.langtag_parent.proofs.Rows.{fields_numbered, parent_found}
use Rattle.langtag_parent.proofs.stated.row_for.Goals as goal

pub returns-in_err-index : goal.returns-in_err-index
returns-in_err-index c =
    ap (option_map field_texts) c.from_residual.ensures
    ∙ parent_found (field_texts c.args.fields) _ _ _ (fields_numbered (field_texts c.args.fields) c.args.fields.language_class c.args.fields.script_class c.args.fields.region_class) c.parent_keys.ensures.numbers c.key_number.ensures
    (c.in_err-index.ensures.value ∙ index_searched c.parent_keys.result.now c.key_number.result _ c.parent_keys.ensures.climbs c.binary_search.ensures.position)

pub returns : goal.returns
returns c =
    ap Some c.parent_at.ensures
    ∙ parent_found (field_texts c.args.fields) _ _ _ (fields_numbered (field_texts c.args.fields) c.args.fields.language_class c.args.fields.script_class c.args.fields.region_class) c.parent_keys.ensures.numbers c.key_number.ensures
    (c.in_ok-index.ensures.value ∙ index_searched c.parent_keys.result.now c.key_number.result _ c.parent_keys.ensures.climbs c.binary_search.ensures.position)
