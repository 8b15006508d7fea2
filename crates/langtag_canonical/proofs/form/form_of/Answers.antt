use Rattle.langtag_scan.proofs.Prelude.{◌≡◌, Some, List, ℕ, refl, sym, ◌∙◌, both_ways, arith, nat_tests}
use Rattle.langtag_scan.specs.Grammar.{Spells, IsNormal}
use Rattle.langtag.specs.Definitions.{IsGrandfathered, lang_tag_text, normal_lang_tag_text}
use Rattle.langtag_canonical.specs.Canonical.{IsReplacedForm, canonical_text}
use Rattle.langtag_fields.specs.Fields.{preferred_tag}
use Rattle.langtag_canonical.proofs.CanonicalParts.{own_record, preferred_goes, record_form}
use Rattle.langtag_canonical.proofs.form.form_of.Goals as goal

whole_form : (old new : List ℕ) → preferred_tag old ≡ Some new → IsReplacedForm old new
whole_form old new is = record { whole = λ w also. cc; kept = λ none why. absurd cc; parts = λ none other r spells. absurd cc }

pub returns-in-Some : goal.returns-in-Some
returns-in-Some c = grind (arith, nat_tests, c.in-Some.is, whole_form, preferred_goes)

pub returns : goal.returns
unfolding IsNormal
returns c =
    let old = lang_tag_text c.args.tag in
    let none = sym (rw c.in_default.is at c.preferred_tag.ensures) in
    let (r, spells) = c.in-Some-as_normal.ensures.kind.0 refl in
    let normal : Spells r (normal_lang_tag_text c.in-Some-as_normal.normal) = (spells.0, spells.1 ∙ sym c.in-Some-as_normal.ensures.same_text) in
    let other = λ (grand : IsGrandfathered old). both_ways c.is_grandfathered.result c.if-is_grandfathered.false (c.is_grandfathered.ensures.1 grand) in
    record {
      form = (r, (normal, record_form old (canonical_text r) r none other spells refl));
      same = λ own. absurd (both_ways c.has_canonical_parts.result c.if-has_canonical_parts.false ((c.has_canonical_parts.ensures r normal).1 (own_record old r spells (own.parts none other r spells))));
    }
