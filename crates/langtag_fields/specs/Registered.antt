-- Which subtags are registered: a registered subtag equals a Subtag field of its Type, ignoring case (RFC 5646 section
-- 2.2.9).
use Rattle.std.specs.Prelude.{ℕ, Bool, List}
use Rattle.langtag_scan.specs.Grammar.{list_any, are_alike}
use Rattle.langtag_fields.specs.Subtags.{language_subtags, extlang_subtags, script_subtags, region_subtags, variant_subtags}

-- whether a text equals one of these texts, ignoring case
abbrev pub contains_alike : List (List ℕ) → List ℕ → Bool
contains_alike texts text = list_any (are_alike text) texts

-- whether a language is registered (section 2.2.1)
unfoldable pub is_registered_language : List ℕ → Bool
is_registered_language text = contains_alike language_subtags text

-- whether an extended language is registered (section 2.2.2)
unfoldable pub is_registered_extlang : List ℕ → Bool
is_registered_extlang text = contains_alike extlang_subtags text

-- whether a script is registered (section 2.2.3)
unfoldable pub is_registered_script : List ℕ → Bool
is_registered_script text = contains_alike script_subtags text

-- whether a region is registered (section 2.2.4)
unfoldable pub is_registered_region : List ℕ → Bool
is_registered_region text = contains_alike region_subtags text

-- whether a variant is registered (section 2.2.5)
unfoldable pub is_registered_variant : List ℕ → Bool
is_registered_variant text = contains_alike variant_subtags text
