-- A text has one canonical form, which is well-formed and its own canonical form.
use Rattle.langtag_scan.proofs.Prelude.{◌≡◌, ℕ, ◌≤◌, ◌⊎◌, List, [], length, IsTrue, arith, true, Bool, not, ◌&&◌, ◌∷◌, Option, None, Some, is_some, unwrap_or, refl, sym, ap, subst, ◌∙◌, rules, AllByRecursion, list_all, common_steps, option_map_or, and_parts, nat_tests}
use Rattle.langtag_scan.specs.Grammar.{is_primary, is_extended, Record, IsWellFormed, IsWellFormedExtension, Spells, spell, EachRecord, fold_byte, IsNormal}
use Rattle.langtag_canonical.proofs.OneForm.{Way, as_whole, as_it_is, by_parts, way_of}
use Rattle.langtag_canonical.specs.Canonical.{canonical_primary, canonical_extended, canonical_record, canonical_variants, in_order, IsReplacedForm}
use Rattle.langtag_fields.specs.Fields.{preferred_region, preferred_variant, preferred_language, preferred_tag}
use Rattle.langtag_text.proofs.Letters.{extended_primary}
use Rattle.langtag_canonical.proofs.ExtensionOrder.{key, sorted_by-each, in_order-twice}
use Rattle.langtag_fields.proofs.FieldTables.{preferred_good, regions_good, variants_good}
use Rattle.langtag_canonical.proofs.ReplacedSubtags.{replaced-holds, if_some-map, each-map, new_language_short, extlang_small, new_extlang_extended, none_from_test, replaced-twice, language_settled, region_settled, variant_settled, variants_stay}
use Rattle.langtag_scan.proofs.NormalTexts.{spelled_once}
use Rattle.langtag.specs.Registered.{IsGrandfathered}
use Rattle.langtag_fields.specs.Subtags.{language_preferred, region_preferred, variant_preferred, tag_preferred}
use Rattle.langtag_fields.proofs.Values.{value_good}
use Rattle.langtag_fields.proofs.WholeTags.{record_of, simple_record, preferred_spelled}

-- a primary subtag and extended ones that may stand after it
pub record IsLanguageOf (primary : List ℕ) (extended : List (List ℕ)) : Type 0 where
  pub first : IsTrue (is_primary primary)
  pub others : AllByRecursion (λ s. IsTrue (is_extended s)) extended
  pub few : length extended ≤ 3
  pub short : (length primary ≤ 3) ⊎ (extended ≡ [])

pub canonical_language_well_formed :
    (p : List ℕ) (es : List (List ℕ)) → IsLanguageOf p es → IsLanguageOf (canonical_primary p es) (canonical_extended es)
canonical_language_well_formed p es is = grind (arith, nat_tests, preferred_good, extlang_small, extended_primary, new_extlang_extended, new_language_short)

pub canonical_record_well_formed : (r : Record) → IsWellFormed r → IsWellFormed (canonical_record r)
unfolding canonical_record in_order
canonical_record_well_formed r well =
    grind (arith, common_steps, canonical_language_well_formed r.primary r.extended, if_some-map, replaced-holds preferred_region, regions_good, each-map, replaced-holds preferred_variant, variants_good, sorted_by-each key IsWellFormedExtension)

-- ---- the canonical record of a canonical record is itself

variants_twice : (vs : List (List ℕ)) → canonical_variants (canonical_variants vs) ≡ canonical_variants vs
variants_twice [] = refl
variants_twice (v ∷ vs) = grind (arith, common_steps, replaced-twice preferred_variant variant_settled v, variant_settled v, variants_twice vs)

pub canonical_record-twice : (r : Record) → canonical_record (canonical_record r) ≡ canonical_record r
unfolding canonical_record
canonical_record-twice r = grind (arith, common_steps, variants_twice, in_order-twice, replaced-twice, language_settled, extlang_small, region_settled)

-- ---- the Preferred-Value of a whole tag stays: by computation

abbrev stays : List ℕ → Bool
stays text =
    not (is_some (preferred_tag text))
    && (not (is_some (preferred_language (record_of text).primary))
    && (option_map_or (λ g. not (is_some (preferred_region g))) (record_of text).region true
    && list_all (λ v. not (is_some (preferred_variant v))) (record_of text).variants))

-- ---- a text that is its own canonical form

pub itself : (text : List ℕ) (r : Record) → preferred_tag text ≡ None → Spells r text → canonical_record r ≡ r → IsReplacedForm text text
itself text r none spells same = record {
  whole = λ w is. absurd cc;
  kept = λ _ _. refl;
  parts = λ _ _ q other.
      let one : q ≡ r = spelled_once q r other.0 spells.0 (other.1 ∙ sym spells.1) in
      rw (one, same, spells.1, none) refl;
}

stays_of : (text new : List ℕ) → preferred_tag text ≡ Some new → stays new ≡ true
unfolding preferred_tag tag_preferred language_preferred region_preferred variant_preferred preferred_language preferred_region preferred_variant fold_byte
stays_of text new is = value_good stays tag_preferred text new refl is

-- it has no Preferred-Value itself
pub whole_settled : (text new : List ℕ) → preferred_tag text ≡ Some new → preferred_tag new ≡ None
whole_settled text new is = none_from_test (preferred_tag new) (and_parts _ _ (stays_of text new is)).0

-- nor do its subtags
pub preferred_record_stays : (text new : List ℕ) → preferred_tag text ≡ Some new → canonical_record (record_of new) ≡ record_of new
unfolding canonical_record in_order
preferred_record_stays text new is = grind (arith, nat_tests, simple_record new, and_parts, stays_of text new is, none_from_test, variants_stay)

pub preferred_itself : (text new : List ℕ) → preferred_tag text ≡ Some new → IsReplacedForm new new
preferred_itself text new is = search (rules, itself, whole_settled, preferred_spelled, preferred_record_stays)

-- ---- every text

-- what the canonical form is by each way: that of parts may have a Preferred-Value as a whole
pub data Form (old new : List ℕ) : Type 0 where
  whole_form : preferred_tag old ≡ Some new → Form old new
  own_form : preferred_tag old ≡ None → IsGrandfathered old ⊎ (IsNormal old → ⊥) → new ≡ old → Form old new
  parts_form : (IsGrandfathered old → ⊥) → (r : Record) → Spells r old → Spells (canonical_record r) new → preferred_tag new ≡ None → Form old new
  again_form : (r : Record) → Spells r old → preferred_tag (spell (canonical_record r)) ≡ Some new → Form old new

pub form_of : (old new : List ℕ) → IsReplacedForm old new → Form old new
form_of old new p = by_way (way_of old)
  where
    by_text : (IsGrandfathered old → ⊥) → (r : Record) → Spells r old → (o : Option (List ℕ)) → preferred_tag (spell (canonical_record r)) ≡ o → new ≡ unwrap_or o (spell (canonical_record r)) → Form old new
    by_text new_one r spells None is same = parts_form new_one r spells (canonical_record_well_formed r spells.0, sym same) (ap preferred_tag same ∙ is)
    by_text new_one r spells (Some w) is same = again_form r spells (is ∙ ap Some (sym same))

    by_way : Way old → Form old new
    by_way (as_whole w is) = whole_form (is ∙ ap Some (sym (p.whole w is)))
    by_way (as_it_is none why) = own_form none why (p.kept none why)
    by_way (by_parts none new_one r spells) = by_text new_one r spells _ refl (p.parts none new_one r spells)

-- what holds of one record of a text holds of each
pub each_from_one : (P : Record → Type 0) (text : List ℕ) (r : Record) → Spells r text → P r → EachRecord text P
each_from_one P text r spells holds q other = subst P (spelled_once r q spells.0 other.0 (spells.1 ∙ sym other.1)) holds

-- a canonical form is its own
pub form_twice : (old new : List ℕ) → IsReplacedForm old new → IsReplacedForm new new
form_twice old new p =
    elim (form_of old new p) [
      | whole_form is ↦ preferred_itself old new is
      | own_form none why same ↦ subst (λ z. IsReplacedForm z new) (sym same) p
      | parts_form new_one r spells becomes none ↦ itself new (canonical_record r) none becomes (canonical_record-twice r)
      | again_form r spells is ↦ preferred_itself _ new is
    ]
