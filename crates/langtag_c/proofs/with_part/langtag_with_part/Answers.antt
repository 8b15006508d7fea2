use Rattle.langtag_scan.proofs.Prelude.{arith, nat_tests}
use Rattle.langtag_scan.proofs.TagLaws.{tag_normal}
use Rattle.langtag_c.proofs.TagLengths.{part_sets}
use Rattle.langtag_parent.proofs.Chains.{some_tag}
use Rattle.langtag_c.proofs.with_part.langtag_with_part.Goals as goal

pub returns-clause-set : goal.returns-clause-set
returns-clause-set c can = grind (arith, nat_tests, part_sets c.in-Some.part c.args.text.now c.args.tag.now)

pub returns-clause-refused : goal.returns-clause-refused
returns-clause-refused c = grind (arith, nat_tests, some_tag, tag_normal)
