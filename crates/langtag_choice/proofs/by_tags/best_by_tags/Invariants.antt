use Rattle.std.proofs.Common.{◌-◌, ◌≤◌, ◌&&◌, length, nat_lt}
use Rattle.langtag_choice.specs.Remaining.{without_all}
use Rattle.langtag_choice.specs.Found.{ListTries, is_unrefused_at}
use Rattle.langtag_choice.proofs.by_tags.best_by_tags.Given as goal

abbrev pub invariant-loop-start : goal.invariant-loop-start
invariant-loop-start g l = record {
  within : l.start ≤ length (g.T.TagList.texts l.tags);
  tries : ListTries (g.R.RangeList.elements l.ranges) (g.T.TagList.texts l.tags) (λ place index. is_unrefused_at (g.R.RangeList.elements l.ranges) (without_all (g.T.TagList.texts l.tags) l.chosen) index && nat_lt index l.start) l.fn.best l.best;
}

abbrev pub decreases-loop-start : goal.decreases-loop-start
decreases-loop-start g l = length (g.T.TagList.texts l.tags) - l.start
