-- The Unicode locale identifier of a range: there is none, or one with the form of the range.
use Rattle.langtag_keyword.proofs.Common.{◌≡◌, ℕ, List, None, refl, sym, ap, subst, inl, inr, ◌∙◌}
use Rattle.langtag.proofs.FormLaws.{one_form}
use Rattle.langtag_scan.specs.Grammar.{IsNormal, IsTag}
use Rattle.langtag_scan.proofs.Prelude.{◌⊎◌}
use Rattle.langtag.specs.Definitions.{IsGrandfathered}
use Rattle.langtag_text.specs.RecommendedCase.{recommended_text}
use Rattle.langtag_posix.specs.Posix.{IsTagOfName, text_of_name, with_said}
use Rattle.langtag_likely.specs.Marked.{as_read}
use Rattle.langtag_locale.specs.Locale.{IsReadLocale}
use Rattle.langtag_locale.specs.LocaleForm.{IsWholeForm, locale_text}
use Rattle.langtag_locale.specs.Resolved.{HasLocale, HasNoLocale, IsKept, IsLocaleOf, IsNameOf, IsResolved}
use Rattle.langtag_locale.proofs.IdentifierForms.{form_is}
use Rattle.langtag_locale.proofs.WholeLaws.{not_both}

-- a name has one tag
pub one_name : (name a b : List ℕ) → IsTagOfName name a → IsTagOfName name b → a ≡ b
one_name name a b p q = p.case ∙ ap recommended_text (one_form (with_said name) (text_of_name name) p.form q.form p.said q.said) ∙ sym q.case

-- a text that has no form has no Unicode locale identifier
pub no_form : (text : List ℕ) → IsWholeForm text None → HasNoLocale text
no_form text none locale has =
    let (r, spells, is) = has.is_locale in
    let form = locale_text (as_read r) in
    not_both text form (has.same_form form (form_is locale form r spells is refl)) none

pub no_tag : (text : List ℕ) → (IsTag text → ⊥) → HasNoLocale text
no_tag text other locale has = other has.is_tag

-- a range that is no name, or whose name has none, has none
pub unnamed_none : (range : List ℕ) → HasNoLocale range → ((tag : List ℕ) → IsNameOf range tag → ⊥) → (locale : List ℕ) → IsLocaleOf range locale → ⊥
unnamed_none range none no_name locale is = elim is [
  | inl has ↦ none locale has
  | inr named ↦ no_name named.1.0 named.1.1
]

pub named_none : (range tag : List ℕ) → HasNoLocale range → IsNameOf range tag → HasNoLocale tag → (locale : List ℕ) → IsLocaleOf range locale → ⊥
named_none range tag none named unknown locale is = elim is [
  | inl has ↦ none locale has
  | inr other ↦ unknown locale (subst (λ t. HasLocale t locale) (one_name range other.1.0 tag other.1.1.is_tag named.is_tag) other.1.2)
]

-- what is found for a range is a Unicode locale identifier as it is read
pub known_locale : (range locale : List ℕ) → IsLocaleOf range locale → IsReadLocale locale
known_locale range locale is = elim is [
  | inl has ↦ has.is_locale
  | inr named ↦ named.1.2.is_locale
]

-- ---- a tag that stays

pub kept_tag : (range tag : List ℕ) → ((IsNormal tag → ⊥) ⊎ IsGrandfathered tag) → IsKept range tag
kept_tag range tag is = elim is [
  | inl other ↦ inl other
  | inr old ↦ inr (inl old)
]

pub kept_resolved : (range tag : List ℕ) → IsKept range tag → (new : List ℕ) → new ≡ tag → IsResolved range tag new
kept_resolved range tag kept new same = inl (kept, same)
