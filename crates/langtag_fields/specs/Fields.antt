-- The fields of the registry's record for a subtag or a whole tag (RFC 5646 section 3.1).
use Rattle.std.specs.Prelude.{ℕ, Bool, false, List, Option}
use Rattle.langtag_scan.specs.Grammar.{are_alike, option_map_or}
use Rattle.langtag_fields.specs.Entry.{value_for}
use Rattle.langtag_fields.specs.Registered.{contains_alike}
use Rattle.langtag_fields.specs.Subtags as list

-- whether the record of this language has a Deprecated field (section 3.1.6)
unfoldable pub is_deprecated_language : List ℕ → Bool
is_deprecated_language text = contains_alike list.deprecated_languages text

-- whether the record of this extended language has a Deprecated field
unfoldable pub is_deprecated_extlang : List ℕ → Bool
is_deprecated_extlang text = contains_alike list.deprecated_extlangs text

-- whether the record of this region has a Deprecated field
unfoldable pub is_deprecated_region : List ℕ → Bool
is_deprecated_region text = contains_alike list.deprecated_regions text

-- whether the record of this variant has a Deprecated field
unfoldable pub is_deprecated_variant : List ℕ → Bool
is_deprecated_variant text = contains_alike list.deprecated_variants text

-- whether the record of this grandfathered or redundant tag has a Deprecated field
unfoldable pub is_deprecated_tag : List ℕ → Bool
is_deprecated_tag text = contains_alike list.deprecated_tags text

-- the Preferred-Value of a language (section 3.1.7)
unfoldable pub preferred_language : List ℕ → Option (List ℕ)
preferred_language text = value_for list.language_preferred text

-- the Preferred-Value of a region (section 3.1.7)
unfoldable pub preferred_region : List ℕ → Option (List ℕ)
preferred_region text = value_for list.region_preferred text

-- the Preferred-Value of a variant (section 3.1.7)
unfoldable pub preferred_variant : List ℕ → Option (List ℕ)
preferred_variant text = value_for list.variant_preferred text

-- the Preferred-Value of a grandfathered or redundant tag (section 3.1.7)
unfoldable pub preferred_tag : List ℕ → Option (List ℕ)
preferred_tag text = value_for list.tag_preferred text

-- the Suppress-Script of a language (section 3.1.9)
unfoldable pub suppress_script : List ℕ → Option (List ℕ)
suppress_script text = value_for list.language_suppress_script text

-- the Macrolanguage of a language (section 3.1.10)
unfoldable pub macrolanguage : List ℕ → Option (List ℕ)
macrolanguage text = value_for list.language_macrolanguage text

-- the Prefix of an extended language; every registered extended language has exactly one Prefix (section 3.1.8)
unfoldable pub extlang_prefix : List ℕ → Option (List ℕ)
extlang_prefix text = value_for list.extlang_prefixes text

-- whether an extended language is registered for a language, which is its Prefix (section 2.2.2)
abbrev pub is_prefix_of : List ℕ → List ℕ → Bool
is_prefix_of language extlang = option_map_or (λ prefix. are_alike prefix language) (extlang_prefix extlang) false
