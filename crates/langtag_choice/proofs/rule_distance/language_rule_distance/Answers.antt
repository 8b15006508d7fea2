use Rattle.std.proofs.Common.{arith}
use Rattle.langtag_choice.proofs.MatchingTables.{language_between}
use Rattle.langtag_choice.proofs.rule_distance.language_rule_distance.Goals as goal

pub returns-clause-some : goal.returns-clause-some
returns-clause-some c = omega (arith, language_between c.args.index c.requires)

pub returns-clause-most : goal.returns-clause-most
returns-clause-most c = omega (arith, language_between c.args.index c.requires)
