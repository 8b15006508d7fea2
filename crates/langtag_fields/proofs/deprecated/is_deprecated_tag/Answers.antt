use Rattle.langtag_scan.proofs.Prelude.{arith, common_steps}
use Rattle.langtag_fields.specs.Fields.{is_deprecated_tag}
use Rattle.langtag_fields.proofs.FieldTables.{deprecated_tag_texts}
use Rattle.langtag_fields.proofs.Values.{any_of_view}
use Rattle.langtag_fields.proofs.deprecated.is_deprecated_tag.Goals as goal

pub returns : goal.returns
unfolding is_deprecated_tag
returns c = grind (arith, common_steps, any_of_view, deprecated_tag_texts)
