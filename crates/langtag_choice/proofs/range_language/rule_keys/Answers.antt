use Rattle.std.proofs.lemmas.Grind.{common_steps}
use Rattle.std.proofs.Common.{arith}
use Rattle.langtag_choice.proofs.MatchingTables.{absent_in_part}
use Rattle.langtag_choice.proofs.range_language.rule_keys.Goals as goal

pub returns : goal.returns
returns c = grind (arith, common_steps, c.args.from, c.language_rule_keys-keys.ensures.numbers, absent_in_part, c.place-start.result)
