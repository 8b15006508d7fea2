use Rattle.std.proofs.Common.{sym, ◌∙◌}
use Rattle.langtag_choice.proofs.TransformedTexts.{five_untransformed, two_untransformed}
use Rattle.langtag_choice.proofs.transformed.is_short.Goals as goal

pub returns-in-len2 : goal.returns-in-len2
returns-in-len2 c = λ plain. two_untransformed c.args.text.now c.in-len2.len_at_least c.in-len2.len_below (sym c.are_plain.ensures ∙ plain)

pub returns-in-len5 : goal.returns-in-len5
returns-in-len5 c = λ plain. five_untransformed c.args.text.now c.in-len5.len_at_least c.in-len5.len_below (sym c.are_all_plain.ensures ∙ plain)
