use Rattle.std.proofs.Common.{◌==◌, length, sym, ap, ◌∙◌, ◌&&◌}
use Rattle.langtag_cldr.proofs.CommonTexts.{nothing_left}
use Rattle.langtag_cldr.proofs.read_text.are_alike.Goals as goal

pub returns-then-is_empty : goal.returns-then-is_empty
returns-then-is_empty c =
    c.is_empty-then-is_empty.ensures
    ∙ sym (nothing_left c.args.range.now c.args.text.now c.after_common.result.0.now c.after_common.result.1.now c.after_common.ensures.plain c.after_common.ensures.left
    ∙ ap (λ b. b && (length c.after_common.result.1.now == 0)) (sym c.is_empty.ensures ∙ c.if-is_empty.true))

pub returns-else-is_empty : goal.returns-else-is_empty
returns-else-is_empty c =
    c.if-is_empty.false
    ∙ sym (nothing_left c.args.range.now c.args.text.now c.after_common.result.0.now c.after_common.result.1.now c.after_common.ensures.plain c.after_common.ensures.left
    ∙ ap (λ b. b && (length c.after_common.result.1.now == 0)) (sym c.is_empty.ensures ∙ c.if-is_empty.false))
