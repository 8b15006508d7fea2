use Rattle.langtag_scan.proofs.Prelude.{take, subst, ◌∙◌, arith, take-append-le}
use Rattle.langtag_keyword.specs.Least.{IsSettled}
use Rattle.langtag_keyword.proofs.LeastLaws.{kept-within}
use Rattle.langtag_keyword.proofs.least_numbers.LeastNumbers.sort.Goals as goal

pub returns-clause-kept : goal.returns-clause-kept
returns-clause-kept g c =
    let count = c.settle-self-inside.result in
    let ns = c.settle-self-inside.new.numbers in
    λ all rise holds.
    take-append-le count ns _ (omega (arith, c.settle-self-inside.ensures.within, c.settle-self-inside.ensures.len))
    ∙ kept-within c.args.self.now all (take count ns) rise holds (subst (λ least. IsSettled least.kept (take count ns)) c.self.view_is c.settle-self-inside.ensures.settled)
