use Rattle.std.proofs.Common.{sym, ap, ◌∙◌, arith}
use Rattle.langtag_scan.proofs.StateTables.{ending_by, normal_by, irregular_by, stands_ending}
use Rattle.langtag_scan.proofs.state.State.ending.Goals as goal

pub returns-then-place-lt6-clause-ending : goal.returns-then-place-lt6-clause-ending
returns-then-place-lt6-clause-ending c = λ q stands. normal_by _ (omega arith) ∙ stands_ending q c.args.self.number c.args.self.within stands

pub returns-in-6-clause-ending : goal.returns-in-6-clause-ending
returns-in-6-clause-ending c = λ q stands. ap ending_by (sym c.in-6.is) ∙ stands_ending q c.args.self.number c.args.self.within stands

pub returns-in-7-clause-ending : goal.returns-in-7-clause-ending
returns-in-7-clause-ending c = λ q stands. ap ending_by (sym c.in-7.is) ∙ stands_ending q c.args.self.number c.args.self.within stands

pub returns-in_default-2-clause-ending : goal.returns-in_default-2-clause-ending
returns-in_default-2-clause-ending c = λ q stands. irregular_by _ (omega arith) ∙ stands_ending q c.args.self.number c.args.self.within stands
