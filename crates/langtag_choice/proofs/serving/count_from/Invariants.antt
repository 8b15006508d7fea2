use Rattle.std.proofs.Common.{◌≡◌, ◌+◌, ◌≤◌, take}
use Rattle.langtag_choice.specs.Suitable.{suitable_count}
use Rattle.langtag_choice.proofs.serving.count_from.Given as goal

abbrev pub invariant-loop-offset : goal.invariant-loop-offset
invariant-loop-offset g l = record {
  few : l.count ≤ l.offset;
  counted : suitable_count (g.R.RangeList.elements l.fn.ranges) (take l.start (g.T.TagList.texts l.tags)) + l.count
      ≡ suitable_count (g.R.RangeList.elements l.fn.ranges) (take (l.start + l.offset) (g.T.TagList.texts l.tags));
}
