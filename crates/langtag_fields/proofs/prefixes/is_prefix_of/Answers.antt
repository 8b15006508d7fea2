use Rattle.std.proofs.Common.{arith}
use Rattle.langtag_fields.specs.Fields.{extlang_prefix}
use Rattle.langtag_fields.specs.Subtags.{extlang_prefixes}
use Rattle.langtag_fields.proofs.FieldTables.{prefix_table}
use Rattle.langtag_fields.proofs.prefixes.is_prefix_of.Goals as goal

pub returns-in-Some : goal.returns-in-Some
unfolding extlang_prefix
returns-in-Some c = grind (arith, c.value_of.ensures extlang_prefixes prefix_table)

pub returns-in-None : goal.returns-in-None
unfolding extlang_prefix
returns-in-None c = grind (arith, c.value_of.ensures extlang_prefixes prefix_table)
