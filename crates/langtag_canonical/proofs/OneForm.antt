-- A text has one canonical form. Specifications of other crates may reach this page, so it imports no page on code.
use Rattle.langtag_scan.proofs.Prelude.{◌≡◌, ℕ, ◌⊎◌, List, Option, None, Some, inl, inr, refl, sym, ap, ◌∙◌, position}
use Rattle.langtag_scan.specs.Grammar.{Record, Spells, IsNormal, are_alike}
use Rattle.langtag_scan.proofs.NormalTexts.{normal_or_not}
use Rattle.langtag.specs.Registered.{IsGrandfathered, text_of}
use Rattle.langtag.specs.declared.grandfathered.TheConstants.{GRANDFATHERED}
use Rattle.langtag.proofs.RegisteredLaws.{first_alike_found, none_alike}
use Rattle.langtag_fields.specs.Fields.{preferred_tag}
use Rattle.langtag_text.specs.RecommendedCase.{recommended_text}
use Rattle.langtag_canonical.specs.Canonical.{IsReplacedForm, IsCanonicalForm}

is_grandfathered : (text : List ℕ) → IsGrandfathered text ⊎ (IsGrandfathered text → ⊥)
unfolding IsGrandfathered
is_grandfathered text = by_option (position (λ tag. are_alike (text_of tag) text) GRANDFATHERED) refl
  where
    by_option : (o : Option ℕ) → position (λ tag. are_alike (text_of tag) text) GRANDFATHERED ≡ o → IsGrandfathered text ⊎ (IsGrandfathered text → ⊥)
    by_option None none = inr (none_alike text none)
    by_option (Some k) found = inl (k, first_alike_found text k found)

-- the ways to a canonical form
pub data Way (old : List ℕ) : Type 0 where
  as_whole : (w : List ℕ) → preferred_tag old ≡ Some w → Way old
  as_it_is : preferred_tag old ≡ None → IsGrandfathered old ⊎ (IsNormal old → ⊥) → Way old
  by_parts : preferred_tag old ≡ None → (IsGrandfathered old → ⊥) → (r : Record) → Spells r old → Way old

pub way_of : (old : List ℕ) → Way old
unfolding IsNormal
way_of old = by_whole (preferred_tag old) refl (is_grandfathered old) (normal_or_not old)
  where
    by_whole : (o : Option (List ℕ)) → preferred_tag old ≡ o → IsGrandfathered old ⊎ (IsGrandfathered old → ⊥) → IsNormal old ⊎ (IsNormal old → ⊥) → Way old
    by_whole (Some w) is old_one normal = as_whole w is
    by_whole None none (inl is) normal = as_it_is none (inl is)
    by_whole None none (inr new) (inl normal) = by_parts none new normal.0 normal.1
    by_whole None none (inr new) (inr other) = as_it_is none (inr other)

-- two canonical forms of a text are equal
pub one_form : (old new other : List ℕ) → IsReplacedForm old new → IsReplacedForm old other → new ≡ other
one_form old new other p q =
    elim (way_of old) [
      | as_whole w is ↦ p.whole w is ∙ sym (q.whole w is)
      | as_it_is none why ↦ p.kept none why ∙ sym (q.kept none why)
      | by_parts none new r spells ↦ p.parts none new r spells ∙ sym (q.parts none new r spells)
    ]

pub one_canonical : (old new other : List ℕ) → IsCanonicalForm old new → IsCanonicalForm old other → new ≡ other
one_canonical old new other p q = p.case ∙ ap recommended_text (one_form old p.form q.form p.steps q.steps) ∙ sym q.case
