use Rattle.langtag_scan.proofs.Prelude.{arith, length-append, common_steps, length-take, length-drop}
use Rattle.langtag.proofs.part.write_part.Goals as goal

pub returns-clause-bounded : goal.returns-clause-bounded
returns-clause-bounded c = grind (arith, common_steps, length-append, length-take, length-drop)
