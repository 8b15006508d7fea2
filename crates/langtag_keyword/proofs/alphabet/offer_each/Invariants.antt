use Rattle.langtag_keyword.proofs.Common.{length, map, AllByRecursion, IsSubtag, segments_left, IsOffered, Least, order_number}
use Rattle.langtag_keyword.proofs.alphabet.offer_each.Given as goal

-- those that are left are offered after those before them
abbrev pub invariant-loop-rest : goal.invariant-loop-rest
invariant-loop-rest g l = record {
  each : AllByRecursion IsSubtag (segments_left l.rest);
  so_far : (new : Least) → IsOffered (map order_number (segments_left l.rest)) l.least new → IsOffered (map order_number (segments_left l.fn.rest)) l.fn.least new;
}

abbrev pub decreases-loop-rest : goal.decreases-loop-rest
decreases-loop-rest g l = length (segments_left l.rest)
