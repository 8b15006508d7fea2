use Rattle.langtag_keyword.proofs.Common.{length, segments_left, Output, Pushes, without_keyword, without_within}
use Rattle.langtag_keyword.proofs.edited_subtags.push_without_keyword.Given as goal

-- those that stay of the rest are put after those before them
abbrev pub invariant-loop-rest : goal.invariant-loop-rest
invariant-loop-rest l = (new : Output) → Pushes (without_within l.key l.is_inside (segments_left l.rest)) l.out new →
    Pushes (without_keyword l.key (segments_left l.fn.rest)) l.fn.out new

abbrev pub decreases-loop-rest : goal.decreases-loop-rest
decreases-loop-rest l = length (segments_left l.rest)
