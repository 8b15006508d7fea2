use Rattle.std.proofs.lemmas.Bool.Decides.{nat_tests}
use Rattle.std.proofs.Common.{arith}
use Rattle.langtag_keyword.proofs.Common.{Some, None, refl, sym, subst, ◌∙◌, false≢true}
use Rattle.std.proofs.lemmas.Option.{IfSome_then}
use Rattle.langtag.specs.Text.{lang_tag_text}
use Rattle.langtag_scan.specs.Tag.{IsNormal}
use Rattle.langtag_locale.specs.Locale.{IsReadLocale}
use Rattle.langtag_locale.specs.LocaleForm.{IsLocaleForm}
use Rattle.langtag_locale.proofs.WholeLaws.{none_form, own_form, rest_form, stays_none, value_form}
use Rattle.langtag_locale.proofs.locale_for.locale_for.Goals as goal

pub returns-in-Some-clause-form : goal.returns-in-Some-clause-form
returns-in-Some-clause-form c = λ form of. own_form _ (Some form) c.in-Some.ensures.some.1 (subst (λ t. IsLocaleForm t (Some form)) c.in-Some.ensures.some.0 of)

pub returns-in-Some-preferred_tag-clause-is_locale : goal.returns-in-Some-preferred_tag-clause-is_locale
returns-in-Some-preferred_tag-clause-is_locale c =
    IfSome_then c.as_locale-in-Some-preferred_tag.result c.as_locale-in-Some-preferred_tag.ensures.some (λ locale is. subst IsReadLocale (sym is.0) is.1)

pub returns-in-Some-preferred_tag-clause-form : goal.returns-in-Some-preferred_tag-clause-form
returns-in-Some-preferred_tag-clause-form c = grind (arith, nat_tests, value_form, c.in_default.ensures.none, c.in-Some-preferred_tag.ensures)

pub returns-in-Some-preferred_tag-clause-none : goal.returns-in-Some-preferred_tag-clause-none
returns-in-Some-preferred_tag-clause-none c = λ is.
    value_form _ _ None (c.in_default.ensures.none refl) (sym c.in-Some-preferred_tag.ensures) (none_form _ (c.as_locale-in-Some-preferred_tag.ensures.none is))

pub returns-in_err-as_normal-clause-none : goal.returns-in_err-as_normal-clause-none
unfolding IsNormal
returns-in_err-as_normal-clause-none c = λ is.
    stays_none _ (c.in_default.ensures.none refl) (sym c.in_default-preferred_tag.ensures)
    (λ old. false≢true (sym c.if-is_grandfathered.false ∙ c.is_grandfathered.ensures.1 old))
    (λ r spells. let found = c.in_err-as_normal.ensures.kind.1 (r, spells) in absurd cc)

pub returns-in_err-from_extlang-clause-none : goal.returns-in_err-from_extlang-clause-none
returns-in_err-from_extlang-clause-none c = λ is.
    stays_none _ (c.in_default.ensures.none refl) (sym c.in_default-preferred_tag.ensures)
    (λ old. false≢true (sym c.if-is_grandfathered.false ∙ c.is_grandfathered.ensures.1 old))
    (λ r spells. c.in_err-from_extlang.ensures.none refl r (spells.0, spells.1 ∙ sym c.in_ok-as_normal.ensures.same_text))

pub returns-clause-is_locale : goal.returns-clause-is_locale
returns-clause-is_locale c = IfSome_then c.as_locale-2.result c.as_locale-2.ensures.some (λ locale is. subst IsReadLocale (sym is.0) is.1)

pub returns-clause-form : goal.returns-clause-form
returns-clause-form c =
    IfSome_then c.as_locale-2.result c.as_locale-2.ensures.some
    (λ locale is form of.
    rest_form (lang_tag_text c.args.tag) _ (Some form) (c.in_default.ensures.none refl) (sym c.in_default-preferred_tag.ensures)
    (λ old. false≢true (sym c.if-is_grandfathered.false ∙ c.is_grandfathered.ensures.1 old)) (c.in_ok-as_normal.ensures.kind.0 refl)
    (λ r spells. c.in_ok-from_extlang.ensures.some r (spells.0, spells.1 ∙ sym c.in_ok-as_normal.ensures.same_text)) (subst (λ t. IsLocaleForm t (Some form)) is.0 of))

pub returns-clause-none : goal.returns-clause-none
returns-clause-none c = λ is.
    rest_form _ _ None (c.in_default.ensures.none refl) (sym c.in_default-preferred_tag.ensures)
    (λ old. false≢true (sym c.if-is_grandfathered.false ∙ c.is_grandfathered.ensures.1 old)) (c.in_ok-as_normal.ensures.kind.0 refl)
    (λ r spells. c.in_ok-from_extlang.ensures.some r (spells.0, spells.1 ∙ sym c.in_ok-as_normal.ensures.same_text)) (none_form _ (c.as_locale-2.ensures.none is))
