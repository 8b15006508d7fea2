use Rattle.std.proofs.Common.{◌≡◌, ◌≤◌, ◌-◌, length, take, drop}
use Rattle.langtag_choice.specs.Remaining.{GoesOn}
use Rattle.langtag_choice.proofs.suitable.choose_in_turn.Given as goal

abbrev pub invariant-loop-count : goal.invariant-loop-count
invariant-loop-count g l = record {
  within : l.count ≤ length l.found;
  chosen : GoesOn (g.R.RangeList.elements l.ranges) (g.T.TagList.texts l.tags) (length l.fn.found) (take l.count l.found);
  rest : drop l.count l.found ≡ drop l.count l.fn.found;
}

abbrev pub decreases-loop-count : goal.decreases-loop-count
decreases-loop-count g l = length l.found - l.count
