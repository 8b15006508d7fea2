use Rattle.langtag_c.proofs.WrittenTexts.{locale_none}
use Rattle.langtag_c.proofs.locale_form.langtag_locale_form.Goals as goal

pub returns-in-Some-clause-none : goal.returns-in-Some-clause-none
returns-in-Some-clause-none c =
    locale_none _ _ _ _ c.write_locale_form.result _ c.in-Some.ensures.0 c.in-Some.ensures.1 c.unwrap_or.ensures c.write_locale_form.ensures.form c.write_locale_form.ensures.none
