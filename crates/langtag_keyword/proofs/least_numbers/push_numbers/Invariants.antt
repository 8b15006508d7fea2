use Rattle.langtag_keyword.proofs.Common.{◌∷◌, [], drop, flat_map, Output, Pushes, number_text}
use Rattle.langtag_keyword.proofs.least_numbers.push_numbers.Given as goal

-- the subtags of the numbers that are left are put after those before them
abbrev pub invariant-loop-number : goal.invariant-loop-number
invariant-loop-number l = (new : Output) → Pushes (flat_map (λ n. number_text n ∷ []) (drop l.number-index l.numbers)) l.out new →
    Pushes (flat_map (λ n. number_text n ∷ []) l.numbers) l.fn.out new
