use Rattle.langtag_keyword.proofs.Common.{false, length, segments_left, Output, Pushes}
use Rattle.langtag_locale.specs.Resolved.{remaining_subtags}
use Rattle.langtag_locale.specs.WishTexts.{wish_texts}
use Rattle.langtag_locale.proofs.resolved_keywords.push_remaining.Given as goal

-- those that stay of the rest are put after those before them
abbrev pub invariant-loop-rest : goal.invariant-loop-rest
invariant-loop-rest l = (new : Output) → Pushes (remaining_subtags (wish_texts l.wish) l.is_removed (segments_left l.rest)) l.out new →
    Pushes (remaining_subtags (wish_texts l.wish) false (segments_left l.fn.rest)) l.fn.out new

abbrev pub decreases-loop-rest : goal.decreases-loop-rest
decreases-loop-rest l = length (segments_left l.rest)
