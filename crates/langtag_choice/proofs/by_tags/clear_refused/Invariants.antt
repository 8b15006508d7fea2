use Rattle.std.proofs.Common.{◌≡◌, ◌&&◌, ◌+◌, ◌≤◌, ◌<◌, ℕ, false, get_or, length}
use Rattle.langtag_choice.specs.Found.{is_unrefused_at}
use Rattle.langtag_choice.specs.Refusals.{AreLongestBefore}
use Rattle.langtag_choice.proofs.by_tags.clear_refused.Given as goal

abbrev pub invariant-loop-range : goal.invariant-loop-range
invariant-loop-range g l = AreLongestBefore (g.R.RangeList.elements l.fn.ranges) (g.R.RangeList.elements l.left) (g.T.TagList.texts l.tags) l.start l.free l.longest

abbrev pub decreases-loop-range : goal.decreases-loop-range
decreases-loop-range g l = length (g.R.RangeList.elements l.left)

abbrev pub invariant-loop-offset : goal.invariant-loop-offset
invariant-loop-offset g l = record {
  long : length l.free ≡ 64;
  before : (k : ℕ) → k < l.offset → get_or l.free k false ≡ (get_or l.fn.free k false && is_unrefused_at (g.R.RangeList.elements l.fn.ranges) (g.T.TagList.texts l.tags) (l.start + k));
  after : (k : ℕ) → l.offset ≤ k → get_or l.free k false ≡ get_or l.fn.free k false;
}
