use Rattle.std.proofs.lemmas.Grind.{common_steps}
use Rattle.std.proofs.Common.{arith}
use Rattle.langtag_posix.proofs.PosixNameRead.{name_few, pieces_name}
use Rattle.langtag_posix.proofs.posix_name.PosixName.write.Goals as goal

pub returns-clause-written : goal.returns-clause-written
returns-clause-written c = grind (arith, common_steps, c.args.self.now, pieces_name, c.lowercase-language.ensures, name_few, c.write_pieces.ensures.written)
