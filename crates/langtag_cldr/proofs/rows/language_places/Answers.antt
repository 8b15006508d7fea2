use Rattle.std.proofs.Common.{[], get_or, refl, ap, ◌∙◌, arith}
use Rattle.langtag_cldr.specs.declared.tables.TheConstants.{SCRIPT_NAMES, LANGUAGE_SCRIPTS, REGION_NAMES, LANGUAGE_REGIONS}
use Rattle.langtag_text.specs.FieldClasses.{is_script_field, is_region_field}
use Rattle.langtag_cldr.proofs.TableRows.{column_good, language_count, rows_listed, scripts_good, regions_good}
use Rattle.langtag_cldr.proofs.RowLaws.{language_at}
use Rattle.langtag_cldr.proofs.rows.language_places.Goals as goal

pub invariant_of-result : goal.invariant_of-result
invariant_of-result c = record {
  language_class = refl;
  script_class = column_good is_script_field SCRIPT_NAMES LANGUAGE_SCRIPTS _ c.args.index scripts_good refl (omega (arith, c.requires, language_count)) c.name_in.ensures;
  region_class = column_good is_region_field REGION_NAMES LANGUAGE_REGIONS _ c.args.index regions_good refl (omega (arith, c.requires, language_count)) c.name_in-2.ensures;
}

pub returns : goal.returns
returns c =
    language_at c.args.index _ _ c.requires
    (c.name_in.ensures ∙ ap (λ list. get_or list c.args.index []) rows_listed.languages.scripts) (c.name_in-2.ensures ∙ ap (λ list. get_or list c.args.index []) rows_listed.languages.regions)
