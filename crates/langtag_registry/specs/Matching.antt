-- Prefixes of variants that are known to match a text.
use Rattle.std.specs.Prelude.{◌≡◌, ℕ, Bool, true, false, List, [], map, get_or}
use Rattle.langtag_range.specs.Definitions.{test_extended}
use Rattle.langtag_fields.specs.Subtags.{variant_prefixes}

-- the Prefix fields of all variants
abbrev pub prefixes : List (List ℕ)
prefixes = map (λ entry. entry.value) variant_prefixes

-- each prefix that is marked, by its index, matches a text by extended filtering (RFC 4647 section 3.3.2)
abbrev pub AreMatching : List Bool → List ℕ → Type 0
AreMatching marks text = (index : ℕ) → get_or marks index false ≡ true → test_extended (get_or prefixes index []) text ≡ true
