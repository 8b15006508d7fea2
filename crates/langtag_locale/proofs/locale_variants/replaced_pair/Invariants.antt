use Rattle.langtag_keyword.proofs.Common.{◌≡◌, length, map, segments_left, TypeAlias, find, option_map}
use Rattle.langtag_locale.specs.LocaleAliases.{variant_pairs}
use Rattle.langtag_locale.specs.LocaleForm.{is_pair_of}
use Rattle.langtag_locale.proofs.locale_variants.replaced_pair.Given as goal

-- no pair so far has the variant and another of the variants
abbrev pub invariant-loop-rows : goal.invariant-loop-rows
invariant-loop-rows l =
    option_map {T = TypeAlias} (λ alias. alias.new) (find (is_pair_of (segments_left l.variants) l.variant) (map (λ row. record { key = row.0.now; old = row.1.now; new = row.2.now }) l.rows))
    ≡ option_map {T = TypeAlias} (λ alias. alias.new) (find (is_pair_of (segments_left l.variants) l.variant) variant_pairs)

abbrev pub decreases-loop-rows : goal.decreases-loop-rows
decreases-loop-rows l = length l.rows
