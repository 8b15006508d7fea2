use Rattle.std.proofs.Common.{[], get_or, refl, ap, ◌∙◌, arith}
use Rattle.langtag_cldr.specs.declared.tables.TheConstants.{LANGUAGE_NAMES, OTHER_LANGUAGES, SCRIPT_NAMES, OTHER_SCRIPTS, REGION_NAMES, OTHER_REGIONS}
use Rattle.langtag_text.specs.FieldClasses.{is_language_field, is_script_field, is_region_field}
use Rattle.langtag_cldr.proofs.TableRows.{column_good, other_count, rows_listed, languages_good, scripts_good, regions_good}
use Rattle.langtag_cldr.proofs.RowLaws.{right_side_at}
use Rattle.langtag_cldr.specs.Definitions.{other_rows}
use Rattle.langtag_cldr.proofs.rows.other_fields.Goals as goal

pub invariant_of-result : goal.invariant_of-result
invariant_of-result c = record {
  language_class = column_good is_language_field LANGUAGE_NAMES OTHER_LANGUAGES _ c.args.index languages_good refl (omega (arith, c.requires, other_count)) c.name_in.ensures;
  script_class = column_good is_script_field SCRIPT_NAMES OTHER_SCRIPTS _ c.args.index scripts_good refl (omega (arith, c.requires, other_count)) c.name_in-2.ensures;
  region_class = column_good is_region_field REGION_NAMES OTHER_REGIONS _ c.args.index regions_good refl (omega (arith, c.requires, other_count)) c.name_in-3.ensures;
}

pub returns : goal.returns
returns c =
    right_side_at other_rows c.args.index _ _ _ c.requires
    (c.name_in.ensures ∙ ap (λ list. get_or list c.args.index []) rows_listed.others.languages) (c.name_in-2.ensures ∙ ap (λ list. get_or list c.args.index []) rows_listed.others.scripts)
    (c.name_in-3.ensures ∙ ap (λ list. get_or list c.args.index []) rows_listed.others.regions)
