use Rattle.std.proofs.Common.{sym, ◌∙◌}
use Rattle.langtag_choice.proofs.FarTags.{tag_begins}
use Rattle.langtag_choice.proofs.nearness.is_fallback.Goals as goal

pub returns-else-is_empty : goal.returns-else-is_empty
returns-else-is_empty c =
    rw (tag_begins c.args.range.now c.args.tag.now c.after_common.result.0.now c.after_common.result.1.now c.after_common.ensures.plain c.after_common.ensures.left, sym c.is_empty.ensures ∙ c.if-is_empty.false) c.if-is_empty.false
