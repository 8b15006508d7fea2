-- A language that is registered as an extended one, too, after its Prefix.
use Rattle.langtag_scan.proofs.Prelude.{◌≡◌, ℕ, ◌≤◌, true, false, ◌==◌, ltb, List, [], ◌∷◌, ◌++◌, length, map, Some, refl, arith, eqb-true, list_all, and_parts, ltb-true, nat_tests, common_steps, eq-eqb}
use Rattle.langtag_scan.specs.Grammar.{is_primary, is_extended, EachRecord, spell, IsNormal}
use Rattle.langtag_scan.proofs.CaseLaw.{length-fold}
use Rattle.langtag_language.specs.Language.{SpellsLanguage, IsLanguage}
use Rattle.langtag_canonical.specs.Canonical.{IsCanonicalForm, IsExtlangForm, is_full, extlang_primary, extlang_extended, extlang_record}
use Rattle.langtag_fields.specs.Entry.{Entry, value_for}
use Rattle.langtag_fields.specs.Fields.{extlang_prefix}
use Rattle.langtag_fields.specs.Subtags.{extlang_prefixes}
use Rattle.langtag_fields.proofs.FieldTables.{prefix_good}
use Rattle.langtag_text.proofs.Letters.{primary_letters}
use Rattle.langtag_fields.proofs.Values.{value_good}

-- ---- by computation: the subtags have three letters, and the prefixes at most three

subtags_three : list_all (λ e. length e.subtag == 3) extlang_prefixes ≡ true
unfolding extlang_prefixes
subtags_three = refl

prefixes_short : list_all (λ value. ltb (length value) 4) (map (λ e. e.value) extlang_prefixes) ≡ true
unfolding extlang_prefixes
prefixes_short = refl

-- a text that has a value is as long as a subtag
length_of_found :
    (list : List Entry) (text value : List ℕ) → list_all (λ e. length e.subtag == 3) list ≡ true → value_for list text ≡ Some value → length text ≡ 3
length_of_found [] text value all is = absurd cc
length_of_found (e ∷ list) text value all is = grind (arith, common_steps, and_parts, length_of_found list, length-fold, eqb-true)

prefixed_extended : (text value : List ℕ) → is_primary text ≡ true → extlang_prefix text ≡ Some value → is_extended text ≡ true
unfolding extlang_prefix is_extended
prefixed_extended text value class is = grind (arith, common_steps, eq-eqb, length_of_found, subtags_three, primary_letters)

prefix_at_most : (text value : List ℕ) → extlang_prefix text ≡ Some value → length value ≤ 3
unfolding extlang_prefix
prefix_at_most text value is = grind (arith, common_steps, ltb-true, value_good, prefixes_short)

-- ---- the language

after_prefix :
    (primary value old new : List ℕ) (extended : List (List ℕ)) → SpellsLanguage primary extended old → is_full extended ≡ false →
    extlang_prefix primary ≡ Some value → new ≡ value ++ 45 ∷ old → SpellsLanguage value (primary ∷ extended) new
after_prefix primary value old new extended spells room is same =
    grind (arith, common_steps, prefix_good primary value is, prefixed_extended primary value spells.first is, nat_tests, prefix_at_most primary value is)

pub prefixed_becomes :
    (primary value old new : List ℕ) (extended : List (List ℕ)) → SpellsLanguage primary extended old → is_full extended ≡ false →
    extlang_prefix primary ≡ Some value → new ≡ value ++ 45 ∷ old → SpellsLanguage (extlang_primary primary extended) (extlang_extended primary extended) new
prefixed_becomes primary value old new extended spells room is same = rw (room, is) (after_prefix primary value old new extended spells room is same)

pub prefixed_language :
    (value old new : List ℕ) → IsLanguage old →
    ((primary : List ℕ) (extended : List (List ℕ)) → SpellsLanguage primary extended old → (is_full extended ≡ false) × (extlang_prefix primary ≡ Some value)) →
    new ≡ value ++ 45 ∷ old → IsLanguage new
prefixed_language value old new (primary, extended, spells) known same = grind (arith, common_steps, after_prefix primary value old new extended spells)

-- ---- a canonical form that is not normal

pub other_form : (old form new : List ℕ) → IsCanonicalForm old form → (IsNormal form → ⊥) → new ≡ form → IsExtlangForm old new
unfolding IsNormal
other_form old form new is other same = record { form = form; canonical = is; kept = λ _. same; parts = λ r spells. absurd (other (r, spells)) }

-- and one that is
pub normal_form : (old form new : List ℕ) → IsCanonicalForm old form → IsNormal form → EachRecord form (λ r. new ≡ spell (extlang_record r)) → IsExtlangForm old new
normal_form old form new is normal parts = record { form = form; canonical = is; kept = λ other. absurd (other normal); parts = parts }
