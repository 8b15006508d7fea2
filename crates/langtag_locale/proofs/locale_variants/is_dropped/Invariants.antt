use Rattle.langtag_keyword.proofs.Common.{◌≡◌, length, map, list_any, are_alike}
use Rattle.langtag_locale.specs.LocaleAliases.{dropped_variants}
use Rattle.langtag_locale.proofs.locale_variants.is_dropped.Given as goal

-- no text so far is equal
abbrev pub invariant-loop-rows : goal.invariant-loop-rows
invariant-loop-rows l = list_any (are_alike l.variant) (map (λ row. row.now) l.rows) ≡ list_any (are_alike l.variant) dropped_variants

abbrev pub decreases-loop-rows : goal.decreases-loop-rows
decreases-loop-rows l = length l.rows
