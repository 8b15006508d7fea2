use Rattle.std.proofs.Common.{◌<◌, [], get_or, Some, option_map, refl, sym, ap, ◌∙◌, arith, length}
use Rattle.langtag_cldr.specs.declared.alias_tables.TheConstants.{ALIAS_LANGUAGES, ALIAS_SCRIPT_NAMES, ALIAS_SCRIPTS, ALIAS_REGION_NAMES, ALIAS_REGIONS}
use Rattle.langtag_text.specs.FieldClasses.{is_language_field, is_script_field, is_region_field}
use Rattle.langtag_cldr.specs.Definitions.{language_alone, language_aliases, field_texts}
use Rattle.langtag_cldr.proofs.RowLaws.{alias_found, aliases_listed, right_side_at}
use Rattle.langtag_cldr.proofs.TableRows.{column_good, name_good, first_index-is, index_searched, long_nowhere}
use Rattle.langtag_cldr.proofs.FieldClasses.{language_letters}
use Rattle.langtag_cldr.proofs.aliases.language_alias.Goals as goal

pub returns-then-fields-gt3 : goal.returns-then-fields-gt3
returns-then-fields-gt3 c = sym (long_nowhere language_aliases (language_alone (field_texts c.args.fields)) c.if-fields-gt3.true aliases_listed.short)

pub returns-in_err-index : goal.returns-in_err-index
returns-in_err-index c =
    ap (option_map field_texts) c.from_residual.ensures
    ∙ alias_found (field_texts c.args.fields) _ _ _ (language_letters _ c.args.fields.language_class) c.alias_keys.ensures.numbers c.language_number.ensures.number (c.in_err-index.ensures.value ∙ index_searched c.alias_keys.result.now c.language_number.result _ c.alias_keys.ensures.climbs c.binary_search.ensures.position)

pub invariant_of-result : goal.invariant_of-result
invariant_of-result c =
    let at = first_index-is c.alias_keys.result.now c.language_number.result c.in_ok-index.index (sym (c.in_ok-index.ensures.value ∙ index_searched c.alias_keys.result.now c.language_number.result _ c.alias_keys.ensures.climbs c.binary_search.ensures.position)) in
    let within : c.in_ok-index.index < length ALIAS_LANGUAGES = omega (arith, at.inside, c.alias_keys.ensures.count) in
    record {
      language_class = name_good is_language_field ALIAS_LANGUAGES c.name_at.result.now c.in_ok-index.index aliases_listed.languages_good within c.name_at.ensures;
      script_class = column_good is_script_field ALIAS_SCRIPT_NAMES ALIAS_SCRIPTS c.name_in.result.now c.in_ok-index.index aliases_listed.scripts_good refl within c.name_in.ensures;
      region_class = column_good is_region_field ALIAS_REGION_NAMES ALIAS_REGIONS c.name_in-2.result.now c.in_ok-index.index aliases_listed.regions_good refl within c.name_in-2.ensures;
    }

pub returns : goal.returns
returns c =
    let found = c.in_ok-index.ensures.value ∙ index_searched c.alias_keys.result.now c.language_number.result _ c.alias_keys.ensures.climbs c.binary_search.ensures.position in
    let at = first_index-is c.alias_keys.result.now c.language_number.result c.in_ok-index.index (sym found) in
    let inside : c.in_ok-index.index < length language_aliases = omega (arith, at.inside, c.alias_keys.ensures.count, aliases_listed.count) in
    ap Some (right_side_at language_aliases c.in_ok-index.index _ _ _ inside
    (c.name_at.ensures ∙ ap (λ list. get_or list c.in_ok-index.index []) aliases_listed.languages)
    (c.name_in.ensures ∙ ap (λ list. get_or list c.in_ok-index.index []) aliases_listed.scripts)
    (c.name_in-2.ensures ∙ ap (λ list. get_or list c.in_ok-index.index []) aliases_listed.regions))
    ∙ alias_found (field_texts c.args.fields) _ _ _ (language_letters _ c.args.fields.language_class) c.alias_keys.ensures.numbers c.language_number.ensures.number found
