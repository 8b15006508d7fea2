-- The texts of tags, and the elements of language ranges.
use Rattle.std.specs.Prelude.{ℕ, List, Option, Some, map}
use Rattle.langtag.specs.declared.lang_tag.LangTag.{LangTag}
use Rattle.langtag.specs.Definitions.{lang_tag_text}
use Rattle.langtag_range.specs.Definitions.{Element, basic_text, written_elements}
use Rattle.langtag_match.specs.Text.{language_range_text}
use Rattle.langtag_match.specs.declared.language_range.LanguageRange.{LanguageRange}
use Rattle.langtag_match.specs.declared.weighted_range.WeightedRange.{WeightedRange}

-- the text of each tag
abbrev pub tag_texts : List LangTag → List (Option (List ℕ))
tag_texts tags = map (λ tag. Some (lang_tag_text tag)) tags

-- the texts of the ranges of a header, as they are written
abbrev pub header_ranges : List ℕ → List (List ℕ)
header_ranges header = map (λ element. element.range) (written_elements header)

-- the texts of ranges
abbrev pub range_texts : List LanguageRange → List (List ℕ)
range_texts ranges = map language_range_text ranges

-- the elements of ranges that all have the weight 1; each "*" is left out
abbrev pub ordered_elements : List LanguageRange → List Element
ordered_elements ranges = map (λ range. record { range = basic_text (language_range_text range); weight = 1000 }) ranges

-- the texts of ranges that have weights
abbrev pub weighted_texts : List WeightedRange → List (List ℕ)
weighted_texts ranges = map (λ weighted. language_range_text weighted.range) ranges

-- the elements of ranges with their weights
abbrev pub weighted_elements : List WeightedRange → List Element
weighted_elements ranges = map (λ weighted. record { range = basic_text (language_range_text weighted.range); weight = weighted.weight }) ranges
