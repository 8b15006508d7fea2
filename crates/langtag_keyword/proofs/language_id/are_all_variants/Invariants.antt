use Rattle.langtag_keyword.proofs.Common.{◌≡◌, length, list_all, is_variant, segments_left}
use Rattle.langtag_keyword.proofs.language_id.are_all_variants.Given as goal

-- the answer hangs on what is left
abbrev pub invariant-loop-rest : goal.invariant-loop-rest
invariant-loop-rest l = list_all is_variant (segments_left l.rest) ≡ list_all is_variant (segments_left l.fn.rest)

abbrev pub decreases-loop-rest : goal.decreases-loop-rest
decreases-loop-rest l = length (segments_left l.rest)
