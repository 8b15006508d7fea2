-- The two rules of filtering (RFC 4647 sections 3.3.1 and 3.3.2), and the tags that an iterator will still return.
use Rattle.std.specs.Prelude.{ℕ, Bool, List}
use Rattle.langtag.specs.declared.lang_tag.LangTag.{LangTag}
use Rattle.langtag_range.specs.Definitions.{test_basic, test_extended}
use Rattle.langtag_match.specs.Filter.{found_at}
use Rattle.langtag_match.specs.declared.filter_rule.FilterRule.{FilterRule}
use Rattle.langtag_match.specs.declared.filter_rule.FilterRule.TheVariants.{Basic, Extended}
use Rattle.langtag_match.specs.declared.filter.Filtered.{Filtered}

-- whether the text of a range matches the text of a tag by a rule
abbrev pub matches_by : FilterRule → List ℕ → List ℕ → Bool
matches_by Basic range tag = test_basic range tag
matches_by Extended range tag = test_extended range tag

-- the tags that the iterator will still return
abbrev pub filtered_left : Filtered → List LangTag
filtered_left walk = found_at (matches_by walk.rule) walk.ranges.now walk.tags.now walk.range_index walk.tag_index
