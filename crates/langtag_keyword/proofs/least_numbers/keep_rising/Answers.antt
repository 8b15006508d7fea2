use Rattle.std.proofs.lemmas.Grind.{common_steps}
use Rattle.langtag_keyword.proofs.Common.{append-nil, arith, drop_all}
use Rattle.langtag_keyword.proofs.least_numbers.keep_rising.Goals.{then-number-last, else-number-last}
use Rattle.langtag_keyword.proofs.least_numbers.keep_rising.Goals as goal

pub loop-index-preserved : goal.loop-index-preserved
loop-index-preserved c = grind (arith, common_steps, c.loop-index.numbers, c.loop-index.index, c.loop-index-test.true, c.loop-index.auto.numbers)

pub returns-clause-rising : goal.returns-clause-rising
returns-clause-rising c = grind (arith, common_steps, drop_all, append-nil, c.loop-index.invariant.so_far)
