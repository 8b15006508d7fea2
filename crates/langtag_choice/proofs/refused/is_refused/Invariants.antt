use Rattle.std.proofs.Common.{length}
use Rattle.langtag_choice.specs.Refusals.{IsLongestBefore}
use Rattle.langtag_choice.proofs.refused.is_refused.Given as goal

abbrev pub invariant-loop-range : goal.invariant-loop-range
invariant-loop-range g l = IsLongestBefore (g.R.RangeList.elements l.fn.ranges) (g.R.RangeList.elements l.left) l.tag l.longest

abbrev pub decreases-loop-range : goal.decreases-loop-range
decreases-loop-range g l = length (g.R.RangeList.elements l.left)
