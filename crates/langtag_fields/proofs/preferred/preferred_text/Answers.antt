use Rattle.langtag_fields.proofs.FieldTables.{tag_ends}
use Rattle.langtag_fields.proofs.preferred.preferred_text.Goals as goal

pub value_beside-requires : goal.value_beside-requires
value_beside-requires c = tag_ends
