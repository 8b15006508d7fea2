use Rattle.langtag_keyword.proofs.Common.{ℕ, List, drop, flat_map, Output, Pushes, subtags, keyword_form, canonical_value_of, opens_keyword, key_of}
use Rattle.langtag_keyword.proofs.keyword_form.push_each_of_few.Given as goal

-- the keywords of the numbers that are left are put after those before them
abbrev pub invariant-loop-number : goal.invariant-loop-number
invariant-loop-number l =
    let put : ℕ → List (List ℕ) = λ n. keyword_form (opens_keyword l.keys) (canonical_value_of l.keys) (subtags l.text) (key_of n) in
    (new : Output) → Pushes (flat_map put (drop l.number-index l.numbers)) l.out new → Pushes (flat_map put l.numbers) l.fn.out new
