use Rattle.langtag_keyword.proofs.Common.{◌≡◌, length, list_any, are_alike, segments_left}
use Rattle.langtag_keyword.proofs.language_id.is_among.Given as goal

-- none so far is equal
abbrev pub invariant-loop-rest : goal.invariant-loop-rest
invariant-loop-rest l = list_any (are_alike l.variant) (segments_left l.rest) ≡ list_any (are_alike l.variant) (segments_left l.fn.rest)

abbrev pub decreases-loop-rest : goal.decreases-loop-rest
decreases-loop-rest l = length (segments_left l.rest)
