-- The classes of subtags that may stand at one place have no member in common.
use Rattle.langtag_scan.proofs.Prelude.{◌≡◌, Some, ℕ, ◌≤◌, true, eqb, List, length, arith, ◌⊎◌, and_parts, nat_tests, common_steps, eqb-true}
use Rattle.langtag_scan.specs.Grammar.{is_letter, is_digit, are_letters, are_digits, are_alphanumeric, is_extended, is_script, is_region, is_variant, is_extension_subtag, is_singleton, Stage, classes_of, next_stage}
use Rattle.langtag_scan.specs.Class.{starts_with_digit}
use Rattle.langtag_scan.proofs.StageLaws.{leads_to, may_follow}

pub letter_no_digit : (b : ℕ) → is_letter b ≡ true → is_digit b ≡ true → ⊥
unfolding is_letter is_digit
letter_no_digit b l d = grind (arith, nat_tests)

pub extended_three : (s : List ℕ) → is_extended s ≡ true → (length s ≡ 3) × (are_letters s ≡ true)
unfolding is_extended
extended_three s h = let k = and_parts (eqb (length s) 3) (are_letters s) h in (eqb-true _ _ k.0, k.1)

pub script_four : (s : List ℕ) → is_script s ≡ true → (length s ≡ 4) × (are_letters s ≡ true)
unfolding is_script
script_four s h = let k = and_parts (eqb (length s) 4) (are_letters s) h in (eqb-true _ _ k.0, k.1)

pub region_two_three : (s : List ℕ) → is_region s ≡ true → ((length s ≡ 2) × (are_letters s ≡ true)) ⊎ ((length s ≡ 3) × (are_digits s ≡ true))
unfolding is_region
region_two_three s h = grind (arith, nat_tests)

pub region_short : (s : List ℕ) → is_region s ≡ true → length s ≤ 3
unfolding is_region
region_short s h = grind (arith, nat_tests)

pub variant_long :
    (s : List ℕ) → is_variant s ≡ true →
    ((5 ≤ length s) × (length s ≤ 8) × (are_alphanumeric s ≡ true)) ⊎ ((length s ≡ 4) × (are_alphanumeric s ≡ true) × (starts_with_digit s ≡ true))
unfolding is_variant
variant_long s h = grind (arith, nat_tests)

pub variant_four : (s : List ℕ) → is_variant s ≡ true → 4 ≤ length s
variant_four s is = grind (arith, nat_tests, variant_long s is)

pub first_no_digit : (s : List ℕ) → are_letters s ≡ true → starts_with_digit s ≡ true → ⊥
first_no_digit s l d = grind (arith, common_steps, and_parts, letter_no_digit)

-- a subtag of the class of a stage leads there, where the stage may follow
pub reached :
    (stage after : Stage) (s : List ℕ) → may_follow stage after ≡ true → leads_to after (classes_of s) ≡ true →
    next_stage stage s ≡ Some after
unfolding is_extended is_script is_region is_variant is_extension_subtag is_singleton
reached stage after s follows class = grind (arith, common_steps, first_no_digit, and_parts)
