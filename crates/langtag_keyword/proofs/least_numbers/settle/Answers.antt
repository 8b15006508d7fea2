use Rattle.langtag_scan.proofs.Prelude.{◌==◌, sym, IsNonDecreasingBy-from_sort, list_any-IsPermutation}
use Rattle.langtag_keyword.proofs.LeastLaws.{settled_by}
use Rattle.langtag_keyword.proofs.least_numbers.settle.Goals as goal

pub returns-clause-settled : goal.returns-clause-settled
returns-clause-settled c =
    let ns = c.sort_unstable.new.self in
    settled_by c.args.numbers.now ns _ (IsNonDecreasingBy-from_sort (λ x. x) ns c.sort_unstable.ensures.sorted)
    (λ n. sym (list_any-IsPermutation (λ m. m == n) c.args.numbers.now ns c.sort_unstable.ensures.permutation)) c.keep_rising.ensures.rising
