use Rattle.langtag_text.proofs.Alike.{same_fields}
use Rattle.std.proofs.Common.{◌≡◌, ◌<◌, true, get_or, sym, subst, arith}
use Rattle.langtag_scan.proofs.Prelude.{and_parts}
use Rattle.langtag_cldr.specs.Definitions.{no_row}
use Rattle.langtag_text.specs.FieldClasses.{is_language_field, is_script_field, is_region_field}
use Rattle.langtag_parent.specs.ParentLocales.{parent_locales}
use Rattle.langtag_parent.specs.declared.tables.TheConstants.{PARENT_LANGUAGES, PARENT_REGIONS, PARENT_SCRIPTS}
use Rattle.langtag_parent.proofs.Rows.{column_at, columns_listed, index_good, row_good}
use Rattle.langtag_parent.proofs.stated.parent_at.Goals as goal

pub named-requires : goal.named-requires
named-requires c = omega (arith, c.parent_languages.ensures.count, subst (λ n. n < 9) (sym c.from-parent.ensures) (index_good c.args.index c.requires))

pub named-requires-2 : goal.named-requires-2
named-requires-2 c = omega (arith, c.parent_scripts.ensures.count, subst (λ n. n < 9) (sym c.from-parent.ensures) (index_good c.args.index c.requires))

pub named-requires-3 : goal.named-requires-3
named-requires-3 c = omega (arith, c.parent_regions.ensures.count, subst (λ n. n < 9) (sym c.from-parent.ensures) (index_good c.args.index c.requires))

pub invariant_of-result : goal.invariant_of-result
invariant_of-result c =
    let row = get_or parent_locales c.args.index no_row in
    let good = row_good c.args.index c.requires in
    let first = and_parts (is_language_field row.to.language) _ good in
    let second = and_parts (is_script_field row.to.script) _ first.1 in
    record {
      language_class = subst (λ t. is_language_field t ≡ true) (sym (column_at PARENT_LANGUAGES (λ row. row.to.language) columns_listed.languages c.args.index c.from-parent.result _ _ c.requires c.from-parent.ensures c.parent_languages.ensures.names c.named.ensures)) first.0;
      script_class = subst (λ t. is_script_field t ≡ true) (sym (column_at PARENT_SCRIPTS (λ row. row.to.script) columns_listed.scripts c.args.index c.from-parent.result _ _ c.requires c.from-parent.ensures c.parent_scripts.ensures.names c.named-2.ensures)) second.0;
      region_class = subst (λ t. is_region_field t ≡ true) (sym (column_at PARENT_REGIONS (λ row. row.to.region) columns_listed.regions c.args.index c.from-parent.result _ _ c.requires c.from-parent.ensures c.parent_regions.ensures.names c.named-3.ensures)) second.1;
    }

pub returns : goal.returns
returns c =
    same_fields _ _
    (column_at PARENT_LANGUAGES (λ row. row.to.language) columns_listed.languages c.args.index c.from-parent.result _ _ c.requires c.from-parent.ensures c.parent_languages.ensures.names c.named.ensures)
    (column_at PARENT_SCRIPTS (λ row. row.to.script) columns_listed.scripts c.args.index c.from-parent.result _ _ c.requires c.from-parent.ensures c.parent_scripts.ensures.names c.named-2.ensures)
    (column_at PARENT_REGIONS (λ row. row.to.region) columns_listed.regions c.args.index c.from-parent.result _ _ c.requires c.from-parent.ensures c.parent_regions.ensures.names c.named-3.ensures)
