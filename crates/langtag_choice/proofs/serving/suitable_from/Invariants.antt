use Rattle.std.proofs.Common.{◌≡◌, ◌||◌, ◌+◌, ℕ, List, None, Some, true, false, get_or, length}
use Rattle.std.specs.List.{list_any}
use Rattle.langtag_choice.specs.Serves.{serves}
use Rattle.langtag_choice.proofs.serving.suitable_from.Given as goal

abbrev pub invariant-loop-wanted : goal.invariant-loop-wanted
invariant-loop-wanted g l = record {
  unset : (k : ℕ) → get_or l.free k false ≡ false → get_or l.suitable k false ≡ false;
  set : (k : ℕ) (tag : List ℕ) → get_or (g.T.TagList.texts l.tags) (l.start + k) None ≡ Some tag → get_or l.free k false ≡ true →
      (get_or l.suitable k false || list_any (λ element. serves element tag) (g.R.RangeList.elements l.left)) ≡ list_any (λ element. serves element tag) (g.R.RangeList.elements l.fn.ranges);
}

abbrev pub decreases-loop-wanted : goal.decreases-loop-wanted
decreases-loop-wanted g l = length (g.R.RangeList.elements l.left)
