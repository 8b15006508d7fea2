-- What the classes of subtags have in common: one to eight letters and digits, and so no hyphen (RFC 5646 section 2.1).
use Rattle.langtag_scan.proofs.Prelude.{◌≡◌, ℕ, ◌≤◌, true, false, not, eqb, eqb-true, List, [], ◌∷◌, length, refl, ap, arith, suc, Bool, ◌&&◌, sym, fold, or-true, and-true, AllByRecursion, ne_eqb, and_parts, or_cases, le-leb, false_from_ne_true, both_ways, All-from_recursion, common_steps, nat_tests, All}
use Rattle.std.proofs.Math.Bool.{and_assoc}
use Rattle.langtag_scan.specs.Grammar.{is_letter, is_digit, is_alphanumeric, has_length, are_letters, are_digits, are_alphanumeric, is_primary, is_extended, is_script, is_region, is_variant, is_extension_subtag, is_private_subtag, is_mark, is_singleton, is_one, classes_of, Kind, Empty, kind_after, kind_of, has_letters, classes_by}
use Rattle.langtag_scan.proofs.BoolFacts.{between_true, list_all-weaker}
use Rattle.langtag_scan.proofs.Disjoint.{extended_three, script_four, region_two_three, variant_long, letter_no_digit}
use Rattle.langtag_scan.specs.Kind.{has_digits, begins_with_digit}
pub use Rattle.langtag_scan.specs.Class.{IsSubtag}

pub letters_alphanumeric : (s : List ℕ) → are_letters s ≡ true → are_alphanumeric s ≡ true
letters_alphanumeric = list_all-weaker is_letter is_alphanumeric (λ b letter. rw letter refl)

pub digits_alphanumeric : (s : List ℕ) → are_digits s ≡ true → are_alphanumeric s ≡ true
digits_alphanumeric = list_all-weaker is_digit is_alphanumeric (λ b digit. rw (digit, or-true (is_letter b)) refl)

pub of_primary : (s : List ℕ) → is_primary s ≡ true → IsSubtag s
unfolding is_primary
of_primary s h = grind (arith, common_steps, and_parts (has_length 2 8 s) (are_letters s) h, between_true 2 8 (length s), letters_alphanumeric s)

pub of_extended : (s : List ℕ) → is_extended s ≡ true → IsSubtag s
of_extended s h = let k = extended_three s h in record { some = omega arith; short = omega arith; alphanumeric = letters_alphanumeric s k.1 }

pub of_script : (s : List ℕ) → is_script s ≡ true → IsSubtag s
of_script s h = let k = script_four s h in record { some = omega arith; short = omega arith; alphanumeric = letters_alphanumeric s k.1 }

pub of_region : (s : List ℕ) → is_region s ≡ true → IsSubtag s
of_region s h = grind (arith, common_steps, region_two_three s h, letters_alphanumeric s, digits_alphanumeric s)

pub of_variant : (s : List ℕ) → is_variant s ≡ true → IsSubtag s
of_variant s h = grind (arith, common_steps, variant_long s h)

pub of_extension_subtag : (s : List ℕ) → is_extension_subtag s ≡ true → IsSubtag s
unfolding is_extension_subtag
of_extension_subtag s h = grind (arith, common_steps, and_parts (has_length 2 8 s) (are_alphanumeric s) h, between_true 2 8 (length s))

pub of_private_subtag : (s : List ℕ) → is_private_subtag s ≡ true → IsSubtag s
unfolding is_private_subtag
of_private_subtag s h = grind (arith, common_steps, and_parts (has_length 1 8 s) (are_alphanumeric s) h, between_true 1 8 (length s))

mark_letter : (c : ℕ) → is_mark c ≡ true → is_letter c ≡ true
unfolding is_mark is_letter
mark_letter c h = grind (arith, common_steps, or_cases (eqb c 120) (eqb c 88) h, eqb-true)

pub mark_alphanumeric : (c : ℕ) → is_mark c ≡ true → is_alphanumeric c ≡ true
mark_alphanumeric c h = rw (mark_letter c h) refl

-- a mark alone has letters alone
pub mark_letters : (s : List ℕ) → is_one is_mark s ≡ true → are_letters s ≡ true
mark_letters s h = grind (arith, common_steps, mark_letter)

pub singleton_alphanumeric : (c : ℕ) → is_singleton c ≡ true → is_alphanumeric c ≡ true
unfolding is_singleton
singleton_alphanumeric c h = (and_parts (is_alphanumeric c) (not (is_mark c)) h).0

pub of_one : (c : ℕ) → is_alphanumeric c ≡ true → IsSubtag (c ∷ [])
of_one c h = record { some = omega arith; short = omega arith; alphanumeric = rw h refl }

pub of_mark : (s : List ℕ) → is_one is_mark s ≡ true → IsSubtag s
of_mark s h = grind (arith, common_steps, of_one, mark_alphanumeric)

pub alphanumeric_no_hyphen : (b : ℕ) → is_alphanumeric b ≡ true → eqb b 45 ≡ false
unfolding is_letter is_digit
alphanumeric_no_hyphen b h = ne_eqb b 45 (λ e. let no_alnum : is_alphanumeric 45 ≡ false = refl in let same : is_alphanumeric b ≡ is_alphanumeric 45 = ap is_alphanumeric e in cc)

pub no_hyphen_each : (s : List ℕ) → are_alphanumeric s ≡ true → AllByRecursion (λ b. eqb b 45 ≡ false) s
no_hyphen_each [] h = tt
no_hyphen_each (b ∷ s) h = let k = and_parts (is_alphanumeric b) (are_alphanumeric s) h in (alphanumeric_no_hyphen b k.0, no_hyphen_each s k.1)

pub hyphen_free : (s : List ℕ) → are_alphanumeric s ≡ true → All (λ b. eqb b 45 ≡ false) s
hyphen_free s h = All-from_recursion (λ b. eqb b 45 ≡ false) s (no_hyphen_each s h)

-- ---- one byte more

-- a letter or digit is just one of them
digit-letter : (b : ℕ) → is_alphanumeric b ≡ true → is_digit b ≡ not (is_letter b)
digit-letter b h = grind (arith, common_steps, false_from_ne_true (is_digit b), letter_no_digit b)

-- after the first byte, what the subtag begins with stays
abbrev is_some_kind : Kind → Bool
is_some_kind Empty = false
is_some_kind _ = true

some_after : (kind : Kind) (b : ℕ) → is_some_kind (kind_after kind b) ≡ true
some_after kind b = grind (arith, nat_tests)

-- ---- a whole subtag

letters-kind : (s : List ℕ) (kind : Kind) → has_letters (fold kind_after kind s) ≡ (has_letters kind && are_letters s)
letters-kind [] kind = sym (and-true (has_letters kind))
letters-kind (b ∷ s) kind = grind (arith, nat_tests, letters-kind s (kind_after kind b))

digits-kind : (s : List ℕ) (kind : Kind) → are_alphanumeric s ≡ true → has_digits (fold kind_after kind s) ≡ (has_digits kind && are_digits s)
digits-kind [] kind h = sym (and-true (has_digits kind))
digits-kind (b ∷ s) kind h = grind (arith, common_steps, and_parts, digits-kind s (kind_after kind b), digit-letter, and_assoc)

begins-kind : (s : List ℕ) (kind : Kind) → is_some_kind kind ≡ true → begins_with_digit (fold kind_after kind s) ≡ begins_with_digit kind
begins-kind [] kind some = refl
begins-kind (b ∷ s) kind some = grind (arith, nat_tests, begins-kind s (kind_after kind b), some)

not_one : (n : ℕ) (v : Bool) → (eqb (suc (suc n)) 1 && v) ≡ false
not_one n v = rw (ne_eqb (suc (suc n)) 1 (λ e. omega arith)) refl

pub classes_of-kind : (s : List ℕ) → length s ≤ 8 → are_alphanumeric s ≡ true → classes_of s ≡ classes_by (kind_of s) (length s)
unfolding is_primary is_extended is_script is_region is_variant is_extension_subtag is_private_subtag is_singleton
classes_of-kind s short h =
    grind (arith, common_steps, letters-kind, digits-kind, and_parts, digit-letter, begins-kind, some_after, le-leb, and-true, not_one, both_ways, mark_letters)

-- letters alone
pub letters-kind_of : (s : List ℕ) → are_letters s ≡ has_letters (kind_of s)
letters-kind_of s = sym (letters-kind s Empty)
