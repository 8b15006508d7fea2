use Rattle.std.proofs.Common.{◌≡◌, ◌-◌, ◌≤◌, length, take}
use Rattle.langtag_choice.specs.Suitable as spec
use Rattle.langtag_choice.proofs.serving.suitable_count.Given as goal

abbrev pub invariant-loop-start : goal.invariant-loop-start
invariant-loop-start g l = record {
  within : l.start ≤ length (g.T.TagList.texts l.tags);
  counted : l.count ≡ spec.suitable_count (g.R.RangeList.elements l.fn.ranges) (take l.start (g.T.TagList.texts l.tags));
}

abbrev pub decreases-loop-start : goal.decreases-loop-start
decreases-loop-start g l = length (g.T.TagList.texts l.tags) - l.start
