use Rattle.langtag_scan.proofs.Prelude.{arith, common_steps}
use Rattle.langtag_range.proofs.PlainElements.{first_and_rest, space_before}
use Rattle.langtag_range.proofs.plain_element.without_space.Goals as goal

pub returns-in-32 : goal.returns-in-32
returns-in-32 c = grind (arith, common_steps, first_and_rest 32 c.args.header.now, space_before)
