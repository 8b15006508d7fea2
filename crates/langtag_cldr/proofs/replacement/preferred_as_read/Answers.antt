use Rattle.langtag_scan.proofs.Prelude.{arith, common_steps}
use Rattle.langtag_fields.specs.Fields.{preferred_tag}
use Rattle.langtag_range.specs.Definitions.{basic_text}
use Rattle.langtag_cldr.proofs.WholeTags.{value_found}
use Rattle.langtag_cldr.proofs.replacement.preferred_as_read.Goals as goal

pub returns-in_err-value : goal.returns-in_err-value
unfolding preferred_tag
returns-in_err-value c = grind (arith, common_steps, value_found c.preferred_tags.result.now (basic_text c.args.range.now) c.preferred_tags.ensures)

pub returns : goal.returns
unfolding preferred_tag
returns c = grind (arith, common_steps, value_found c.preferred_tags.result.now (basic_text c.args.range.now) c.preferred_tags.ensures)
