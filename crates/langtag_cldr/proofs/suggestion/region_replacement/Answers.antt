use Rattle.std.proofs.Common.{◌<◌, Some, option_map, ap, ◌∙◌, arith, length}
use Rattle.langtag_cldr.specs.declared.alias_tables.TheConstants.{REPLACEMENT_NAMES}
use Rattle.langtag_cldr.specs.Definitions.{region_replacements, field_texts}
use Rattle.langtag_text.specs.FieldClasses.{is_region_field}
use Rattle.langtag_cldr.proofs.RowLaws.{at_index, replacements_listed, replaced_region}
use Rattle.langtag_cldr.proofs.TableRows.{name_good}
use Rattle.langtag_cldr.proofs.FieldClasses.{region_alphanumeric}
use Rattle.langtag_cldr.proofs.suggestion.region_replacement.Goals as goal

pub returns-in_err-index-clause-region : goal.returns-in_err-index-clause-region
returns-in_err-index-clause-region c =
    ap (option_map (λ text. text.now)) c.from_residual.ensures
    ∙ replaced_region (field_texts c.args.fields) c.replacement_keys.result.now _ (region_alphanumeric _ c.args.fields.region_class) c.replacement_keys.ensures.numbers c.in_err-index.ensures.found

pub returns-clause-region : goal.returns-clause-region
returns-clause-region c =
    let inside : c.in_ok-index.index < length region_replacements = omega (arith, c.in_ok-index.ensures.within, c.replacement_keys.ensures.count, replacements_listed.count) in
    ap Some (c.name_at.ensures ∙ at_index region_replacements _ (λ row. row.to.region) c.in_ok-index.index replacements_listed.regions inside)
    ∙ replaced_region (field_texts c.args.fields) c.replacement_keys.result.now _ (region_alphanumeric _ c.args.fields.region_class) c.replacement_keys.ensures.numbers c.in_ok-index.ensures.found

pub returns-clause-in_class : goal.returns-clause-in_class
returns-clause-in_class c =
    let within : c.in_ok-index.index < length REPLACEMENT_NAMES = omega (arith, c.in_ok-index.ensures.within, c.replacement_keys.ensures.count) in
    name_good is_region_field REPLACEMENT_NAMES c.name_at.result.now c.in_ok-index.index replacements_listed.good within c.name_at.ensures
