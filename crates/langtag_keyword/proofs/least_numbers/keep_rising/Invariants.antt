use Rattle.langtag_keyword.proofs.LeastLaws.{Moved}
use Rattle.langtag_keyword.proofs.least_numbers.keep_rising.Given as goal

abbrev pub invariant-loop-index : goal.invariant-loop-index
invariant-loop-index l = Moved l.fn.numbers l.numbers l.index l.count l.last
