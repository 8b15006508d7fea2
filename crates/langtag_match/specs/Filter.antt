-- Filtering of a list of tags by a language priority list (RFC 4647 section 3.3).
use Rattle.std.specs.Prelude.{◌≡◌, ℕ, ◌+◌, ◌<◌, Bool, not, ◌&&◌, List, [], ◌∷◌, ◌++◌, length, take, drop, filter, slice_get, Option, Some, MatchOption, IsPermutation}
use Rattle.langtag_scan.specs.Prelude.{list_any}
use Rattle.langtag.specs.declared.lang_tag.LangTag.{LangTag}
use Rattle.langtag.specs.Definitions.{lang_tag_text}
use Rattle.langtag_match.specs.declared.language_range.LanguageRange.{LanguageRange}
use Rattle.langtag_match.specs.Text.{language_range_text}

-- whether a range matches a tag, by a rule for their texts
abbrev pub finds : (List ℕ → List ℕ → Bool) → LanguageRange → LangTag → Bool
finds matches range tag = matches (language_range_text range) (lang_tag_text tag)

-- whether some range matches a tag
abbrev pub is_found : (List ℕ → List ℕ → Bool) → List LanguageRange → LangTag → Bool
is_found matches ranges tag = list_any (λ range. finds matches range tag) ranges

-- whether a range matches a tag that no range in `before` matches
abbrev pub is_newly_found : (List ℕ → List ℕ → Bool) → List LanguageRange → LanguageRange → LangTag → Bool
is_newly_found matches before range tag = finds matches range tag && not (is_found matches before tag)

-- the tags that a range matches, and that no range in `before` matches
abbrev pub newly_found : (List ℕ → List ℕ → Bool) → List LanguageRange → LanguageRange → List LangTag → List LangTag
newly_found matches before range tags = filter (is_newly_found matches before range) tags

-- for each range in turn, the tags that it matches and that neither a range in `before` nor an earlier range matches
abbrev pub found_after : (List ℕ → List ℕ → Bool) → List LanguageRange → List LanguageRange → List LangTag → List LangTag
found_after matches before [] tags = []
found_after matches before (range ∷ ranges) tags = newly_found matches before range tags ++ found_after matches (before ++ range ∷ []) ranges tags

-- the tags that some range matches, grouped by the first range that matches them; within a group, the tags keep the
-- order of the list
abbrev pub filtered : (List ℕ → List ℕ → Bool) → List LanguageRange → List LangTag → List LangTag
filtered matches ranges tags = found_after matches [] ranges tags

-- the tags that were found are exactly the tags of the list that some range matches, in some order
abbrev pub AreFoundOnce : (List ℕ → List ℕ → Bool) → List LanguageRange → List LangTag → List LangTag → Type 0
AreFoundOnce matches ranges tags found = IsPermutation (filter (is_found matches ranges) tags) found

-- the tags that an iterator will still return: it has yet to compare the first of the ranges with the tags in `left`,
-- and the later ranges with all tags. The ranges in `before` are done
abbrev pub found_from :
    (List ℕ → List ℕ → Bool) → List LanguageRange → List LanguageRange → List LangTag → List LangTag → List LangTag
found_from matches before [] left tags = []
found_from matches before (range ∷ ranges) left tags =
    newly_found matches before range left ++ found_after matches (before ++ range ∷ []) ranges tags

-- the tags that an iterator will still return, if it continues with the range and the tag at these indices
abbrev pub found_at : (List ℕ → List ℕ → Bool) → List LanguageRange → List LangTag → ℕ → ℕ → List LangTag
found_at matches ranges tags range_index tag_index =
    found_from matches (take range_index ranges) (drop range_index ranges) (drop tag_index tags) tags

-- the next match, searched from these indices on: the index of a range, and the index of the tag that it finds; or none
-- if no tag is left
abbrev pub IsNextPlace : (List ℕ → List ℕ → Bool) → List LanguageRange → List LangTag → ℕ → ℕ → Option (ℕ × ℕ) → Type 0
IsNextPlace matches ranges tags range_index tag_index result =
    MatchOption result (found_at matches ranges tags range_index tag_index ≡ [])
    (λ place. (place.0 < length ranges) × (place.1 < length tags) × ((next : LangTag) → slice_get tags place.1 ≡ Some next →
    found_at matches ranges tags range_index tag_index ≡ next ∷ found_at matches ranges tags place.0 (place.1 + 1)))

-- the next match of one range, searched from an index on: the index of the next tag that the range newly finds, or none
abbrev pub IsNextFound :
    (List ℕ → List ℕ → Bool) → List LanguageRange → LanguageRange → List LangTag → ℕ → Option ℕ → Type 0
IsNextFound matches before range tags from result =
    MatchOption result (newly_found matches before range (drop from tags) ≡ [])
    (λ found. (found < length tags) × ((next : LangTag) → slice_get tags found ≡ Some next →
    newly_found matches before range (drop from tags) ≡ next ∷ newly_found matches before range (drop (found + 1) tags)))
