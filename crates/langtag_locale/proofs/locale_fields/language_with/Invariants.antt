use Rattle.langtag_keyword.proofs.Common.{◌≡◌, true, length, map, list_all, segments_left, TypeAlias, fold}
use Rattle.langtag_text.specs.FieldClasses.{is_language_field}
use Rattle.langtag_locale.specs.LocaleAliases.{variant_languages}
use Rattle.langtag_locale.specs.LocaleForm.{language_after}
use Rattle.langtag_locale.proofs.locale_fields.language_with.Given as goal

-- the rows so far are done, and each row brings a language
abbrev pub invariant-loop-rows : goal.invariant-loop-rows
invariant-loop-rows l = record {
  so_far :
      fold (language_after (segments_left l.variants)) l.language (map (λ row. record { key = row.0.now; old = row.1.now; new = row.2.now }) l.rows)
      ≡ fold (language_after (segments_left l.variants)) l.fn.language variant_languages;
  in_class : is_language_field l.language ≡ true;
  rows_good : list_all {X = TypeAlias} (λ alias. is_language_field alias.new) (map (λ row. record { key = row.0.now; old = row.1.now; new = row.2.now }) l.rows) ≡ true;
}

abbrev pub decreases-loop-rows : goal.decreases-loop-rows
decreases-loop-rows l = length l.rows
