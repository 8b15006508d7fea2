use Rattle.langtag_keyword.proofs.Common.{None, subst}
use Rattle.langtag_locale.specs.LocaleForm.{IsWholeForm}
use Rattle.langtag_locale.proofs.RangeLaws.{no_form}
use Rattle.langtag_locale.proofs.range_locale.locale_of.Goals as goal

pub returns-in-Ok-clause-none : goal.returns-in-Ok-clause-none
returns-in-Ok-clause-none c = λ is. no_form c.args.text.now (subst (λ t. IsWholeForm t None) c.in-Ok.ensures.same_text (c.locale_for.ensures.none is))
