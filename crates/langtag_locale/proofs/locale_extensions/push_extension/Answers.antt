use Rattle.std.proofs.lemmas.Bool.Decides.{nat_tests}
use Rattle.langtag_keyword.proofs.Common.{◌∷◌, [], true, false, sym, ap, ◌∙◌, arith, pushes_joined, pushes_same, extension_flat, subtags, is_transform}
use Rattle.langtag_locale.specs.LocaleForm.{locale_extension_form, locale_transform_form}
use Rattle.langtag_locale.proofs.LocaleRecords.{locale_form_tested, transform_allowed}
use Rattle.langtag_locale.proofs.locale_extensions.push_extension.Goals as goal

pub push_locale_transform-requires-clause-allowed : goal.push_locale_transform-requires-clause-allowed
push_locale_transform-requires-clause-allowed c =
    let (e, spells, allowed) = c.requires in
    ap is_transform (c.subtags_of-then-is_of-2.ensures.subtags e spells)
    ∙ transform_allowed e (sym (c.is_of.ensures e spells) ∙ c.if-is_of.false) (sym (c.is_of-2.ensures e spells) ∙ c.if-is_of-2.true) allowed

pub returns-then-is_of : goal.returns-then-is_of
returns-then-is_of c = grind (arith, nat_tests, locale_form_tested, c.is_of.ensures, c.if-is_of.true, c.subtags_of.ensures.subtags, c.push_unicode.ensures)

pub returns-then-is_of-2 : goal.returns-then-is_of-2
returns-then-is_of-2 c = λ e spells.
    let is = locale_form_tested false true e (sym (c.is_of.ensures e spells) ∙ c.if-is_of.false) (sym (c.is_of-2.ensures e spells) ∙ c.if-is_of-2.true) in
    pushes_same ((116 ∷ []) ∷ locale_transform_form (subtags c.subtags_of-then-is_of-2.result.now)) (extension_flat (locale_extension_form e)) _ _
    (ap (λ ss. (116 ∷ []) ∷ locale_transform_form ss) (c.subtags_of-then-is_of-2.ensures.subtags e spells) ∙ sym (ap extension_flat is)) c.push_locale_transform.ensures

pub returns : goal.returns
returns c = λ e spells.
    let is = locale_form_tested false false e (sym (c.is_of.ensures e spells) ∙ c.if-is_of.false) (sym (c.is_of-2.ensures e spells) ∙ c.if-is_of-2.false) in
    pushes_same (extension_flat e) (extension_flat (locale_extension_form e)) _ _ (sym (ap extension_flat is))
    (pushes_joined (e.singleton ∷ []) e.subtags _ _ (omega arith) (pushes_same _ _ _ _ (ap (λ t. t ∷ []) (c.as_bytes.ensures ∙ sym spells.joined)) c.push_subtag.ensures))
