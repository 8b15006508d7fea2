use Rattle.std.proofs.lemmas.Bool.Decides.{nat_tests}
use Rattle.std.proofs.Common.{None, Some, refl, ◌∙◌, arith}
use Rattle.langtag.specs.Text.{lang_tag_buf_text, lang_tag_text}
use Rattle.langtag_likely.specs.Marked.{as_read}
use Rattle.langtag_likely.proofs.MarkLaws.{read_fits}
use Rattle.langtag_locale.proofs.IdentifierForms.{form_is}
use Rattle.langtag_locale.proofs.LocaleRecords.{locale_tag}
use Rattle.langtag_locale.proofs.WholeLaws.{whole-alike, whole-own}
use Rattle.langtag_locale.proofs.canonical_locale.locale_form.Goals as goal

pub tag_of-requires : goal.tag_of-requires
tag_of-requires c =
    let (r, spells, locale) = c.in-Some.ensures.is_locale in
    let tag = locale_tag (as_read r) (read_fits r spells.0) locale in
    grind (arith, nat_tests, c.in_ok-form_bytes.ensures r spells, tag)

pub returns : goal.returns
returns c =
    let (r, spells, locale) = c.in-Some.ensures.is_locale in
    let tag = lang_tag_text c.args.tag in
    let text = lang_tag_buf_text c.tag_of.result in
    let is = c.in-Some.ensures.form text (form_is _ _ r spells locale (c.tag_of.ensures ∙ c.in_ok-form_bytes.ensures r spells)) in
    record { form = is; settled = whole-own tag text is; any_case = λ other other_form alike of. whole-alike tag other alike (Some text) other_form is of }

pub returns-in_default-clause-any_case : goal.returns-in_default-clause-any_case
returns-in_default-clause-any_case c = λ other other_form alike of. whole-alike (lang_tag_text c.args.tag) other alike None other_form (c.in_default.ensures.none refl) of
