-- The text of each type, as a list of bytes.
use Rattle.std.specs.Prelude.{ℕ, List, [], String, string_bytes}
use Rattle.langtag_scan.specs.Prelude.{option_map_or, Global}
use Rattle.langtag_match.specs.declared.language_range.LanguageRange.{LanguageRange}
use Rattle.langtag_match.specs.declared.language_range.LanguageRangeBuf.{LanguageRangeBuf}
use Rattle.langtag_match.specs.declared.fallbacks.Fallbacks.{Fallbacks}
use Rattle.langtag_match.specs.declared.weighted_range.WeightedRange.{WeightedRange}
use Rattle.langtag_match.specs.declared.accept_language.AcceptLanguage.{AcceptLanguage}
use Rattle.langtag_range.specs.Definitions.{fallbacks}

abbrev pub language_range_text : LanguageRange → List ℕ
language_range_text range = range.text.0.now

-- the `String` itself, which the value owns
abbrev pub language_range_buf_string : LanguageRangeBuf → String Global
language_range_buf_string range = range.text.0

abbrev pub language_range_buf_text : LanguageRangeBuf → List ℕ
language_range_buf_text range = string_bytes (language_range_buf_string range)

abbrev pub weighted_range_text : WeightedRange → List ℕ
weighted_range_text weighted = language_range_text weighted.range

-- the texts that the iterator will still return
abbrev pub fallbacks_left : Fallbacks → List (List ℕ)
fallbacks_left walk = option_map_or (λ range. fallbacks (language_range_text range)) walk.rest []

-- the ranges that a header accepts
abbrev pub accept_language_ranges : AcceptLanguage → List WeightedRange
accept_language_ranges accepted = accepted.ranges.items
