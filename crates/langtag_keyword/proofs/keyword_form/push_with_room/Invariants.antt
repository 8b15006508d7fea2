use Rattle.langtag_keyword.proofs.Common.{◌-◌, filter, subtags, keyword_form, canonical_value_of, opens_keyword, key_of}
use Rattle.langtag_keyword.proofs.LeastTexts.{Rounds}
use Rattle.langtag_keyword.proofs.keyword_form.push_with_room.Given as goal

-- the keywords that are left are put after those before them
abbrev pub invariant-loop-more : goal.invariant-loop-more
invariant-loop-more g l =
    let ss = subtags l.text in
    Rounds (λ n. keyword_form (opens_keyword l.keys) (canonical_value_of l.keys) ss (key_of n)) (filter (opens_keyword l.keys) ss) l.least l.more l.fn.out l.out

abbrev pub decreases-loop-more : goal.decreases-loop-more
decreases-loop-more g l = 18446744073709551615 - l.least.last
