-- Lookup of a tag for a list of language ranges (RFC 4647 section 3.4).
use Rattle.std.specs.Prelude.{ℕ, List, [], ◌∷◌, Option, None, find, unwrap_or}
use Rattle.langtag_scan.specs.Grammar.{option_or, are_alike}
use Rattle.langtag.specs.declared.lang_tag.LangTag.{LangTag}
use Rattle.langtag.specs.Definitions.{lang_tag_text}
use Rattle.langtag_range.specs.Definitions.{basic_form, fallbacks}

-- the first of the tags that equals the basic form of a range, ignoring case
abbrev pub tag_alike : List LangTag → List ℕ → Option LangTag
tag_alike tags range = find (λ tag. are_alike (lang_tag_text tag) (basic_form range)) tags

-- the first tag that `tag_alike` finds when it tries the ranges in order, or none
abbrev pub first_alike : List LangTag → List (List ℕ) → Option LangTag
first_alike tags [] = None
first_alike tags (range ∷ ranges) = option_or (tag_alike tags range) (first_alike tags ranges)

-- the tag for the first range that equals a tag, either itself or by one of its fallbacks; the default if no range does
abbrev pub choice : List LangTag → LangTag → List (List ℕ) → LangTag
choice tags default [] = default
choice tags default (range ∷ ranges) = unwrap_or (first_alike tags (fallbacks range)) (choice tags default ranges)
