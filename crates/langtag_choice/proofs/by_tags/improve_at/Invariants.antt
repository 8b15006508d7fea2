use Rattle.std.proofs.Common.{◌≡◌, ◌⊎◌, ◌&&◌, ◌+◌, ◌<◌, ◌^◌, length, nat_lt}
use Rattle.langtag_choice.specs.Found.{IsWorst, ListTries, is_flagged}
use Rattle.langtag_choice.proofs.FoundLaws.{IsRest}
use Rattle.langtag_choice.proofs.by_tags.improve_at.Given as goal

abbrev pub invariant-loop-wanted : goal.invariant-loop-wanted
invariant-loop-wanted g l = record {
  few : (l.place ≡ 0) ⊎ (l.place + length (g.R.RangeList.elements l.left) < 2 ^ 64);
  inside : l.worst < length l.best;
  last : IsWorst l.best l.worst;
  rest : IsRest (g.R.RangeList.elements l.fn.ranges) (g.R.RangeList.elements l.left) l.place;
  tries : ListTries (g.R.RangeList.elements l.fn.ranges) (g.T.TagList.texts l.tags) (λ place index. is_flagged l.start l.free index && nat_lt place l.place) l.fn.best l.best;
}

abbrev pub decreases-loop-wanted : goal.decreases-loop-wanted
decreases-loop-wanted g l = length (g.R.RangeList.elements l.left)
