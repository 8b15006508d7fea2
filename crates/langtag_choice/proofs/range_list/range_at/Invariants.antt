use Rattle.std.proofs.Common.{◌≡◌, length, slice_get}
use Rattle.langtag_choice.proofs.range_list.range_at.Given as goal

abbrev pub invariant-loop-wanted : goal.invariant-loop-wanted
invariant-loop-wanted g l = record {
  element : slice_get (g.R.RangeList.elements l.left) l.before ≡ slice_get (g.R.RangeList.elements l.fn.ranges) l.fn.place;
  text : slice_get (g.R.RangeList.texts l.left) l.before ≡ slice_get (g.R.RangeList.texts l.fn.ranges) l.fn.place;
}

abbrev pub decreases-loop-wanted : goal.decreases-loop-wanted
decreases-loop-wanted g l = length (g.R.RangeList.elements l.left)
