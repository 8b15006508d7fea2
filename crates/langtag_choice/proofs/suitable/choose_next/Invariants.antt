use Rattle.std.proofs.Common.{◌≡◌, ◌≤◌, ◌<◌, ◌-◌, ◌⊎◌, length, take, drop}
use Rattle.langtag_choice.specs.Remaining.{GoesOn, without_all}
use Rattle.langtag_choice.specs.Found.{IsShortlist}
use Rattle.langtag_choice.proofs.suitable.choose_next.Given as goal

abbrev pub invariant-loop-end : goal.invariant-loop-end
invariant-loop-end g l = record {
  within : l.end ≤ length l.found;
  some : 0 < length l.best;
  shortlist : IsShortlist (g.R.RangeList.elements l.fn.ranges) (without_all (g.T.TagList.texts l.fn.tags) (take l.end l.found)) l.worst l.best;
  chosen : GoesOn (g.R.RangeList.elements l.fn.ranges) (g.T.TagList.texts l.fn.tags) (length l.fn.found) (take l.fn.start l.fn.found) →
      GoesOn (g.R.RangeList.elements l.fn.ranges) (g.T.TagList.texts l.fn.tags) (length l.fn.found) (take l.end l.found);
  rest : drop l.end l.found ≡ drop l.end l.fn.found;
  moved : ((l.end ≡ l.start) × (l.best ≡ l.initial.best)) ⊎ (l.start < l.end);
}

abbrev pub decreases-loop-end : goal.decreases-loop-end
decreases-loop-end g l = length l.found - l.end
