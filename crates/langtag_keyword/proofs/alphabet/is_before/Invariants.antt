use Rattle.langtag_keyword.proofs.Common.{◌≡◌, length, fold_text, is_before}
use Rattle.langtag_keyword.proofs.alphabet.is_before.Given as goal

-- all bytes so far tie
abbrev pub invariant-loop-a : goal.invariant-loop-a
invariant-loop-a l = is_before (fold_text l.a) (fold_text l.b) ≡ is_before (fold_text l.fn.a) (fold_text l.fn.b)

abbrev pub decreases-loop-a : goal.decreases-loop-a
decreases-loop-a l = length l.a
