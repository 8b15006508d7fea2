-- Valid tags (RFC 5646 section 2.2.9), by the registry on the page `Subtags`.
use Rattle.std.specs.Prelude.{◌≡◌, ℕ, ◌≤◌, ◌⊎◌, IsTrue, List, length, map, None, IfSome}
use Rattle.langtag_scan.specs.Grammar.{AllByRecursion, are_alike, Record, EachRecord, IsTag}
use Rattle.langtag.specs.Definitions.{IsGrandfathered, repeat, are_alike_bytes}
use Rattle.langtag_fields.specs.Registered.{is_registered_language, is_registered_extlang, is_registered_script, is_registered_region, is_registered_variant}

-- all primary, extended, script, region and variant subtags of the record are registered; there is at most one extended
-- subtag (section 2.2.2); no variant and no singleton occurs twice
pub record IsValidRecord (r : Record) : Type 0 where
  pub primary : IsTrue (is_registered_language r.primary)
  pub extended : AllByRecursion (λ s. IsTrue (is_registered_extlang s)) r.extended
  pub one_extended : length r.extended ≤ 1
  pub script : IfSome r.script (λ s. IsTrue (is_registered_script s))
  pub region : IfSome r.region (λ s. IsTrue (is_registered_region s))
  pub variants : AllByRecursion (λ s. IsTrue (is_registered_variant s)) r.variants
  pub no_repeated_variant : repeat are_alike r.variants ≡ None
  pub no_repeated_singleton : repeat are_alike_bytes (map (λ e. e.singleton) r.extensions) ≡ None

-- the text is a tag that is grandfathered, or whose record is valid. A private use tag has no record, so it is valid
unfoldable pub IsValid : List ℕ → Type 0
IsValid text = IsTag text × (IsGrandfathered text ⊎ EachRecord text IsValidRecord)
