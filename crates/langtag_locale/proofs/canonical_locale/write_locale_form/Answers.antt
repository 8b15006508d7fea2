use Rattle.langtag_locale.proofs.IdentifierForms.{form_is}
use Rattle.langtag_locale.proofs.canonical_locale.write_locale_form.Goals as goal

pub returns-clause-form : goal.returns-clause-form
returns-clause-form c =
    let (r, spells, locale) = c.in_ok-locale.ensures.is_locale in
    let w = c.write_locale_parts.ensures r spells in
    record { text = w.text; is_so = c.in_ok-locale.ensures.form w.text (form_is _ w.text r spells locale w.is_so); whole = w.whole; written = w.written }
