-- The canonical form is the replaced form in its recommended case, so alike tags have the same form, byte for byte.
use Rattle.langtag_scan.proofs.Prelude.{◌≡◌, ℕ, List, [], codes, nat_tests, length, length-map, refl, sym, ap, ◌∙◌, arith, common_steps}
use Rattle.langtag_scan.specs.Grammar.{Alike, EachRecord, IsTag, fold_byte}
use Rattle.langtag_scan.proofs.CaseLaw.{alike_parts, alike_tag}
use Rattle.langtag_fields.specs.Valid.{IsValid}
use Rattle.langtag_canonical.proofs.ValidForms.{valid_form, apart_form, no_extlang_form}
use Rattle.langtag_canonical.proofs.ValidCase.{valid_alike}
use Rattle.langtag_canonical.specs.CanonicalLaws.{StayApart}
use Rattle.langtag_text.specs.RecommendedCase.{recommended_text}
use Rattle.langtag_text.proofs.RecommendedLaws.{alike_recommended, recommended_alike, alike_of_recommended, recommended_twice}
use Rattle.langtag_canonical.specs.Canonical.{IsReplacedForm, IsCanonicalForm}
use Rattle.langtag_canonical.proofs.CanonicalParts.{form_is_tag}
use Rattle.langtag_canonical.proofs.AlikeForms.{alike_forms, canonical_in_any_case}
use Rattle.langtag_canonical.proofs.TwiceLaws.{form_twice}

pub recommended-length : (t : List ℕ) → length (recommended_text t) ≡ length t
recommended-length t = sym (length-map (recommended_text t) fold_byte) ∙ ap length (recommended_alike t) ∙ length-map t fold_byte

pub same_canonical : (old other new newer : List ℕ) → Alike old other → IsCanonicalForm old new → IsCanonicalForm other newer → newer ≡ new
same_canonical old other new newer alike p q =
    sym (p.case ∙ alike_recommended p.form q.form (alike_forms old other p.form q.form alike p.steps q.steps) ∙ sym q.case)

pub in_case : (old new : List ℕ) → IsCanonicalForm old new → new ≡ recommended_text new
in_case old new p = p.case ∙ sym (recommended_twice p.form) ∙ ap recommended_text (sym p.case)

pub canonical_twice : (old new : List ℕ) → IsCanonicalForm old new → IsCanonicalForm new new
canonical_twice old new p = record {
  form = new;
  steps = canonical_in_any_case p.form new (alike_of_recommended p.form new p.case) (form_twice old p.form p.steps);
  case = in_case old new p;
}

pub no_extlang_canonical :
    (old new : List ℕ) → IsValid old → (Alike (codes "zh-min") new → ⊥) → IsCanonicalForm old new → EachRecord new (λ r. r.extended ≡ [])
no_extlang_canonical old new valid other p = λ r spells.
    let alike = alike_of_recommended p.form new p.case in
    let like = alike_parts new p.form (sym alike) r spells in
    let same = ap (λ z. length z.extended) like.2 in
    let none = no_extlang_form old p.form valid (λ is. other (is ∙ alike)) p.steps like.0 like.1 in
    grind (arith, common_steps, nat_tests, length-map)

pub canonical_is_tag : (old new : List ℕ) → IsTag old → IsCanonicalForm old new → IsTag new
canonical_is_tag old new tag p = alike_tag p.form new (alike_of_recommended p.form new p.case) (form_is_tag old p.form tag p.steps)

pub valid_canonical : (old new : List ℕ) → IsValid old → StayApart old → IsCanonicalForm old new → IsValid new
valid_canonical old new valid once p = valid_alike p.form new (alike_of_recommended p.form new p.case) (valid_form old p.form valid once p.steps)

pub apart_canonical : (old new : List ℕ) → IsCanonicalForm old new → IsValid new → StayApart old
apart_canonical old new p valid = apart_form old p.form p.steps (valid_alike new p.form (sym (alike_of_recommended p.form new p.case)) valid)
