use Rattle.langtag_keyword.proofs.Common.{ℕ, List, [], ◌++◌, not, ◌==◌, take, filter, HasText, with_subtag}
use Rattle.std.proofs.Common.{MutBor}
use Rattle.langtag_keyword.proofs.least_numbers.push_number.Given as goal

-- the digits before this index that are not zero stand after the hyphen
abbrev pub invariant-loop-byte : goal.invariant-loop-byte
invariant-loop-byte l = (first : MutBor (List ℕ)) (text : List ℕ) → HasText first l.fn.out text → HasText first l.out (with_subtag text [] ++ filter (λ b. not (b == 0)) (take l.byte-index l.byte-items))
