use Rattle.std.proofs.Common.{◌≡◌, take, drop}
use Rattle.langtag_match.specs.Filter.{found_from}
use Rattle.langtag_match.specs.FilterRule.{matches_by}
use Rattle.langtag_match.proofs.filter.next_place.Given as goal

-- what is left is what the range at the index and those after it find
abbrev pub invariant-loop-index : goal.invariant-loop-index
invariant-loop-index l =
    found_from (matches_by l.rule) (take l.range_index l.ranges) (drop l.range_index l.ranges) (drop l.tag_index l.tags) l.tags
    ≡ found_from (matches_by l.rule) (take l.index l.ranges) (drop l.index l.ranges) (drop l.from l.tags) l.tags
