use Rattle.std.proofs.lemmas.Grind.{common_steps}
use Rattle.langtag_keyword.proofs.Common.{[], sym, subst, arith, append-nil, take_all, HasText, with_subtag}
use Rattle.langtag_keyword.proofs.LeastTexts.{after-hyphen}
use Rattle.langtag_keyword.proofs.least_numbers.push_number.Goals.{then-byte-gt0, else-byte-gt0}
use Rattle.langtag_keyword.proofs.least_numbers.push_number.Goals as goal

pub loop-byte-init : goal.loop-byte-init
loop-byte-init c = λ first text has. subst (HasText first c.push_subtag.new.self) (sym (append-nil (with_subtag text []))) (c.push_subtag.ensures first text has)

pub loop-byte-preserved : goal.loop-byte-preserved
loop-byte-preserved c = grind (arith, common_steps, c.to_be_bytes-byte-items.result, c.loop-byte.byte-index, c.loop-byte-test.true)

pub returns : goal.returns
returns c = grind (arith, common_steps, after-hyphen, take_all, c.to_be_bytes-byte-items.ensures, c.loop-byte-test.false, c.loop-byte.invariant)
