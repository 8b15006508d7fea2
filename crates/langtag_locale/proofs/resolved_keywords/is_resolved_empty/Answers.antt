use Rattle.std.proofs.lemmas.Bool.Decides.{nat_tests}
use Rattle.langtag_keyword.proofs.Common.{arith, subtags, sym, ◌∙◌}
use Rattle.langtag_locale.specs.WishTexts.{wish_texts}
use Rattle.langtag_locale.proofs.ResolvedLaws.{resolved-none, resolved-some}
use Rattle.langtag_locale.proofs.resolved_keywords.is_resolved_empty.Goals as goal

pub returns-then-has_key : goal.returns-then-has_key
returns-then-has_key c = grind (arith, nat_tests, resolved-some (wish_texts c.args.wish) (subtags c.args.text.now) (sym c.has_key.ensures ∙ c.if-has_key.true))

pub returns : goal.returns
returns c = grind (arith, nat_tests, resolved-none (wish_texts c.args.wish) (subtags c.args.text.now) (sym c.has_key.ensures ∙ c.if-has_key.false), c.has_remaining.ensures)
