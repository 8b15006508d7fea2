use Rattle.std.proofs.Common.{◌<◌, [], get_or, Some, option_map, refl, ap, ◌∙◌, arith, length}
use Rattle.langtag_cldr.specs.declared.alias_tables.TheConstants.{REGION_ALIAS_NAMES}
use Rattle.langtag_text.specs.FieldClasses.{is_region_field}
use Rattle.langtag_cldr.specs.Definitions.{region_aliases, field_texts}
use Rattle.langtag_cldr.proofs.RowLaws.{none_at, region_found, region_aliases_listed, right_side_at}
use Rattle.langtag_cldr.proofs.TableRows.{name_good}
use Rattle.langtag_cldr.proofs.FieldClasses.{region_alphanumeric}
use Rattle.langtag_cldr.proofs.aliases.region_alias.Goals as goal

pub returns-in_err-index : goal.returns-in_err-index
returns-in_err-index c =
    ap (option_map field_texts) c.from_residual.ensures
    ∙ region_found region_aliases region_aliases_listed.alone (field_texts c.args.fields) _ _ _ (region_alphanumeric _ c.args.fields.region_class) c.region_alias_keys.ensures.numbers refl c.in_err-index.ensures.found

pub invariant_of-result : goal.invariant_of-result
invariant_of-result c =
    let within : c.in_ok-index.index < length REGION_ALIAS_NAMES = omega (arith, c.in_ok-index.ensures.within, c.region_alias_keys.ensures.count) in
    record {
      language_class = refl;
      script_class = refl;
      region_class = name_good is_region_field REGION_ALIAS_NAMES c.name_at.result.now c.in_ok-index.index region_aliases_listed.good within c.name_at.ensures;
    }

pub returns : goal.returns
returns c =
    let inside : c.in_ok-index.index < length region_aliases = omega (arith, c.in_ok-index.ensures.within, c.region_alias_keys.ensures.count, region_aliases_listed.count) in
    ap Some (right_side_at region_aliases c.in_ok-index.index _ _ _ inside
    (none_at region_aliases _ _ region_aliases_listed.languages inside)
    (none_at region_aliases _ _ region_aliases_listed.scripts inside)
    (c.name_at.ensures ∙ ap (λ list. get_or list c.in_ok-index.index []) region_aliases_listed.regions))
    ∙ region_found region_aliases region_aliases_listed.alone (field_texts c.args.fields) _ _ _ (region_alphanumeric _ c.args.fields.region_class) c.region_alias_keys.ensures.numbers refl c.in_ok-index.ensures.found
