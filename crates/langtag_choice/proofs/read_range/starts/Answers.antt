use Rattle.std.proofs.Common.{◌∙◌}
use Rattle.langtag_range.specs.Listed.{basic_text}
use Rattle.langtag_choice.proofs.FarTags.{range_starts}
use Rattle.langtag_choice.proofs.read_range.starts.Goals as goal

pub returns : goal.returns
returns c =
    c.is_empty.ensures
    ∙ range_starts c.args.range.now c.args.tag.now (basic_text c.after_common.result.0.now) c.after_common.result.1.now c.after_common.ensures.left
