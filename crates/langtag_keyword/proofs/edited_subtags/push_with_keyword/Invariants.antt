use Rattle.langtag_keyword.proofs.Common.{length, option_map, segments_left, subtags, Output, Pushes, with_keyword}
use Rattle.langtag_keyword.proofs.KeywordLaws.{put_at_standing}
use Rattle.langtag_keyword.proofs.edited_subtags.push_with_keyword.Given as goal

-- the keyword, and those that stay of the rest, are put after those before them
abbrev pub invariant-loop-rest : goal.invariant-loop-rest
invariant-loop-rest l = (new : Output) → Pushes (put_at_standing l.key (option_map (λ t. t.now) l.standing) (subtags l.value) (segments_left l.rest)) l.out new →
    Pushes (with_keyword l.key (subtags l.value) (subtags l.fn.text)) l.fn.out new

abbrev pub decreases-loop-rest : goal.decreases-loop-rest
decreases-loop-rest l = length (segments_left l.rest)
