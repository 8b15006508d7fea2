use Rattle.langtag_fields.proofs.FieldTables.{prefix_numbers, prefix_texts}
use Rattle.langtag_fields.proofs.prefixes.variant_prefixes.Goals as goal

pub returns : goal.returns
returns c = record { numbers = prefix_numbers; values = prefix_texts }
