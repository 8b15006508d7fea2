use Rattle.langtag_keyword.proofs.Common.{arith, nat_tests}
use Rattle.langtag_c.proofs.ExtensionSpans.{span-left, span-subtags}
use Rattle.langtag_c.proofs.extension_walk.take_subtag.Goals as goal

pub returns-clause-subtags : goal.returns-clause-subtags
returns-clause-subtags c = grind (arith, nat_tests, span-subtags)

pub returns-clause-left : goal.returns-clause-left
returns-clause-left c = grind (arith, nat_tests, span-left)
