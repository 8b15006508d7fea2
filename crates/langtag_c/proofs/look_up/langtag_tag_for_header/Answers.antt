use Rattle.langtag_scan.proofs.Prelude.{arith, nat_tests}
use Rattle.langtag_c.proofs.LookUps.{not_good}
use Rattle.langtag_c.proofs.look_up.langtag_tag_for_header.Goals as goal

pub returns-in-Some-clause-strict : goal.returns-in-Some-clause-strict
returns-in-Some-clause-strict c = grind (arith, nat_tests, not_good c.args.header.now c.in-Some.item c.in-Some.part c.in-Some.ensures)
