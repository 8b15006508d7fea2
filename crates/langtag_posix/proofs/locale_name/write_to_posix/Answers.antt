use Rattle.std.proofs.lemmas.Grind.{common_steps}
use Rattle.std.proofs.Common.{arith}
use Rattle.langtag_posix.proofs.PosixNameRead.{other_name}
use Rattle.langtag_posix.proofs.locale_name.write_to_posix.Goals as goal

pub returns-in_err-as_normal-clause-written : goal.returns-in_err-as_normal-clause-written
returns-in_err-as_normal-clause-written c = grind (arith, common_steps, c.from_residual.ensures, other_name, c.in_err-as_normal.ensures.kind.1)
