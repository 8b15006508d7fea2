use Rattle.langtag_scan.proofs.Prelude.{◌≡◌, MatchOption, false, length, list_any}
use Rattle.langtag_choice.specs.Serves.{is_excluded}
use Rattle.langtag_choice.proofs.by_tags.has_zero.Given as goal

abbrev pub invariant-loop-wanted : goal.invariant-loop-wanted
invariant-loop-wanted g l = record {
  zeros : list_any is_excluded (g.R.RangeList.elements l.left) ≡ list_any is_excluded (g.R.RangeList.elements l.fn.ranges);
  read : MatchOption l.found (g.R.RangeList.elements l.left ≡ g.R.RangeList.elements l.fn.ranges) (λ zero. zero ≡ false);
}

abbrev pub decreases-loop-wanted : goal.decreases-loop-wanted
decreases-loop-wanted g l = length (g.R.RangeList.elements l.left)
