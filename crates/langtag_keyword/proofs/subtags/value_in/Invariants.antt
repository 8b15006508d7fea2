use Rattle.langtag_keyword.proofs.Common.{◌≡◌, length, subtags, segments_left, opens_keyword, value_of}
use Rattle.langtag_keyword.proofs.subtags.value_in.Given as goal

-- the key was not met so far
abbrev pub invariant-loop-rest : goal.invariant-loop-rest
invariant-loop-rest l = value_of (opens_keyword l.keys) l.key (segments_left l.rest) ≡ value_of (opens_keyword l.keys) l.key (subtags l.fn.text)

abbrev pub decreases-loop-rest : goal.decreases-loop-rest
decreases-loop-rest l = length (segments_left l.rest)
