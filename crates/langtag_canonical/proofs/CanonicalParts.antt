-- The canonical record, part by part, and what a tag becomes by it.
use Rattle.langtag_scan.proofs.Prelude.{◌≡◌, ◌<◌, ℕ, List, Option, None, Some, unwrap_or, ◌⊎◌, refl, sym, ap, subst, ◌∙◌, arith, inl, common_steps}
use Rattle.langtag_scan.specs.Grammar.{Record, Spells, spell, IsNormal, IsTag}
use Rattle.langtag_scan.proofs.NormalTexts.{spelled_once}
use Rattle.langtag.specs.Registered.{IsGrandfathered}
use Rattle.langtag_text.specs.Writes.{Writes}
use Rattle.langtag_text.specs.WritesWhole.{WritesWhole}
use Rattle.langtag_canonical.specs.Canonical.{canonical_primary, canonical_extended, canonical_region, canonical_variants, in_order, canonical_record, canonical_text, IsReplacedForm}
use Rattle.langtag_fields.specs.Fields.{preferred_tag}
use Rattle.langtag_canonical.proofs.TwiceLaws.{whole_settled, preferred_record_stays, form_of, whole_form, own_form, parts_form, again_form, canonical_record_well_formed}
use Rattle.langtag_fields.proofs.WholeTags.{record_of, preferred_spelled, preferred_is_tag}

-- ---- where all stay

pub record DoPartsStay (r : Record) : Type 0 where
  pub language : (canonical_primary r.primary r.extended ≡ r.primary) × (canonical_extended r.extended ≡ r.extended)
  pub region : canonical_region r.region ≡ r.region
  pub variants : canonical_variants r.variants ≡ r.variants
  pub extensions : in_order r.extensions ≡ r.extensions

pub record_stays : (r : Record) → DoPartsStay r → canonical_record r ≡ r
unfolding canonical_record
record_stays r stay = grind (arith, common_steps)

pub parts_stay : (r : Record) → canonical_record r ≡ r → DoPartsStay r
unfolding canonical_record
parts_stay r same = grind (arith, common_steps)

-- ---- what a tag becomes

pub kept_form : (old new : List ℕ) → preferred_tag old ≡ None → IsGrandfathered old ⊎ (IsNormal old → ⊥) → new ≡ old → IsReplacedForm old new
unfolding IsNormal
kept_form old new none why same = grind (arith, common_steps)

pub record_form :
    (old new : List ℕ) (r : Record) → preferred_tag old ≡ None → (IsGrandfathered old → ⊥) → Spells r old → new ≡ canonical_text r → IsReplacedForm old new
unfolding IsNormal
record_form old new r none other spells same = grind (arith, common_steps, spelled_once r)

-- it is a tag, as the text that it is of
pub form_is_tag : (old new : List ℕ) → IsTag old → IsReplacedForm old new → IsTag new
unfolding IsTag IsNormal preferred_tag
form_is_tag old new is p =
    elim (form_of old new p) [
      | whole_form found ↦ preferred_is_tag old new found
      | own_form none why same ↦ subst IsTag (sym same) is
      | parts_form new_one r spells becomes none ↦ inl (canonical_record r, becomes)
      | again_form r spells found ↦ preferred_is_tag _ new found
    ]

-- a text that was written is written as the canonical form that it is
pub form_written :
    (old text before after : List ℕ) (len : ℕ) → len < 18446744073709551616 → IsReplacedForm old text → Writes (λ new. new ≡ text) before after len →
    WritesWhole (IsReplacedForm old) before after len
form_written old text before after len fits is w = grind (arith, common_steps)

-- ---- where it is its own canonical form

pub preferred_goes : (text new : List ℕ) → preferred_tag text ≡ Some new → IsReplacedForm text text → ⊥
preferred_goes text new found is =
    let none : preferred_tag text ≡ None = ap preferred_tag (is.whole new found) ∙ whole_settled text new found in
    absurd cc

-- a text that is its own canonical form has a record that stays
pub own_record : (text : List ℕ) (r : Record) → Spells r text → text ≡ unwrap_or (preferred_tag (spell (canonical_record r))) (spell (canonical_record r)) → canonical_record r ≡ r
own_record text r spells same = by_option (preferred_tag (spell (canonical_record r))) refl same
  where
    by_option : (o : Option (List ℕ)) → preferred_tag (spell (canonical_record r)) ≡ o → text ≡ unwrap_or o (spell (canonical_record r)) → canonical_record r ≡ r
    by_option None is own = spelled_once (canonical_record r) r (canonical_record_well_formed r spells.0) spells.0 (sym own ∙ sym spells.1)
    by_option (Some w) is own =
        let s = preferred_spelled (spell (canonical_record r)) w is in
        let one : record_of w ≡ r = spelled_once (record_of w) r s.0 spells.0 (s.1 ∙ sym own ∙ sym spells.1) in
        rw one at (preferred_record_stays (spell (canonical_record r)) w is)
