use Rattle.std.proofs.Common.{arith}
use Rattle.langtag_scan.proofs.StateTables.{next_within}
use Rattle.langtag_scan.proofs.state.State.after_class.Goals as goal

pub returns-else-number-lt-NONE : goal.returns-else-number-lt-NONE
returns-else-number-lt-NONE c = omega (arith, next_within c.args.class c.args.self.number c.requires c.args.self.within, c.if-number-lt-NONE.false)
