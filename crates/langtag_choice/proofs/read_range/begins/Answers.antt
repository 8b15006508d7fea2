use Rattle.std.proofs.Common.{sym, ◌∙◌}
use Rattle.langtag_choice.proofs.FarTags.{range_begins}
use Rattle.langtag_choice.proofs.read_range.begins.Goals as goal

pub returns-then-is_empty : goal.returns-then-is_empty
returns-then-is_empty c =
    rw (range_begins c.args.range.now c.args.tag.now c.after_common.result.0.now c.after_common.result.1.now c.after_common.ensures.plain c.after_common.ensures.left, sym c.is_empty.ensures ∙ c.if-is_empty.true) c.ends_subtag.ensures

pub returns-else-is_empty : goal.returns-else-is_empty
returns-else-is_empty c =
    rw (range_begins c.args.range.now c.args.tag.now c.after_common.result.0.now c.after_common.result.1.now c.after_common.ensures.plain c.after_common.ensures.left, sym c.is_empty.ensures ∙ c.if-is_empty.false) c.if-is_empty.false
