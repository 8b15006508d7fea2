use Rattle.std.proofs.Common.{arith}
use Rattle.langtag_choice.proofs.MatchingTables.{script_between}
use Rattle.langtag_choice.proofs.rule_distance.script_rule_distance.Goals as goal

pub returns-clause-some : goal.returns-clause-some
returns-clause-some c = omega (arith, script_between c.args.index c.requires)

pub returns-clause-most : goal.returns-clause-most
returns-clause-most c = omega (arith, script_between c.args.index c.requires)
