use Rattle.std.proofs.Common.{◌≡◌, ◌&&◌, ◌||◌, ◌+◌, ◌≤◌, ◌<◌, ℕ, List, None, Some, false, get_or, length}
use Rattle.langtag_range.specs.Definitions.{listed_element}
use Rattle.langtag_choice.specs.Serves.{serves}
use Rattle.langtag_choice.proofs.serving.set_serving.Given as goal

abbrev pub invariant-loop-offset : goal.invariant-loop-offset
invariant-loop-offset g l = record {
  long : length l.flags ≡ 64;
  before : (k : ℕ) (tag : List ℕ) → k < l.offset → get_or (g.T.TagList.texts l.tags) (l.start + k) None ≡ Some tag →
      get_or l.flags k false ≡ (get_or l.fn.flags k false || (get_or l.free k false && serves (listed_element l.wanted) tag));
  after : (k : ℕ) → l.offset ≤ k → get_or l.flags k false ≡ get_or l.fn.flags k false;
  others : (k : ℕ) → get_or l.free k false ≡ false → get_or l.flags k false ≡ get_or l.fn.flags k false;
}
