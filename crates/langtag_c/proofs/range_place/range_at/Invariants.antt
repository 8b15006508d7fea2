use Rattle.langtag_keyword.proofs.Common.{◌≡◌, ◌+◌, length, take, sum_by}
use Rattle.langtag_range.specs.Element.{items}
use Rattle.langtag_c.proofs.TagsAt.{width}
use Rattle.langtag_c.specs.RangePlaces.{range_count}
use Rattle.langtag_c.proofs.range_place.range_at.Given as goal

-- what was passed over ends with a comma, and has the ranges that are no longer left
abbrev pub invariant-loop-item : goal.invariant-loop-item
invariant-loop-item l = record {
  begins : l.start ≡ sum_by width (take (length l.yielded) (items l.header));
  count : l.left + range_count (take (length l.yielded) (items l.header)) ≡ l.place;
}
