use Rattle.langtag_scan.proofs.StateTables.{part_within, stands_part}
use Rattle.langtag_scan.proofs.state.State.part_before.Goals as goal

pub returns-clause-within : goal.returns-clause-within
returns-clause-within c = part_within c.args.self.number c.args.self.within

pub returns-clause-part : goal.returns-clause-part
returns-clause-part c = λ q stands. stands_part q c.args.self.number c.args.self.within stands
