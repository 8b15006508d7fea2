use Rattle.langtag_scan.proofs.Prelude.{◌≡◌, ◌⊎◌, ◌||◌, ◌+◌, ◌<◌, ◌^◌, None, length, nat_lt, list_any}
use Rattle.langtag_choice.specs.Serves.{is_excluded}
use Rattle.langtag_choice.specs.Found.{Tries}
use Rattle.langtag_choice.proofs.FoundLaws.{IsRest}
use Rattle.langtag_choice.proofs.by_ranges.first_by_ranges.Given as goal

abbrev pub invariant-loop-wanted : goal.invariant-loop-wanted
invariant-loop-wanted g l = record {
  few : (l.place ≡ 0) ⊎ (l.place + length (g.R.RangeList.elements l.left) < 2 ^ 64);
  rest : IsRest (g.R.RangeList.elements l.fn.ranges) (g.R.RangeList.elements l.left) l.place;
  zero : (l.has_zero || list_any is_excluded (g.R.RangeList.elements l.left)) ≡ list_any is_excluded (g.R.RangeList.elements l.fn.ranges);
  tries : Tries (g.R.RangeList.elements l.fn.ranges) (g.T.TagList.texts l.tags) (λ place index. nat_lt place l.place) None l.first;
}

abbrev pub decreases-loop-wanted : goal.decreases-loop-wanted
decreases-loop-wanted g l = length (g.R.RangeList.elements l.left)
