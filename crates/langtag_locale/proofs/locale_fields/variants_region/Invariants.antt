use Rattle.langtag_keyword.proofs.Common.{◌≡◌, true, length, map, list_all, segments_left, Alias}
use Rattle.langtag_text.specs.FieldClasses.{is_region_field}
use Rattle.langtag_locale.specs.LocaleAliases.{variant_regions}
use Rattle.langtag_locale.specs.LocaleForm.{variants_region}
use Rattle.langtag_locale.proofs.locale_fields.variants_region.Given as goal

-- no variant so far stands for a region, and each row brings a region
abbrev pub invariant-loop-rows : goal.invariant-loop-rows
invariant-loop-rows l = record {
  so_far : variants_region (segments_left l.variants) (map (λ row. record { old = row.0.now; new = row.1.now }) l.rows) ≡ variants_region (segments_left l.variants) variant_regions;
  rows_good : list_all {X = Alias} (λ alias. is_region_field alias.new) (map (λ row. record { old = row.0.now; new = row.1.now }) l.rows) ≡ true;
}

abbrev pub decreases-loop-rows : goal.decreases-loop-rows
decreases-loop-rows l = length l.rows
