-- The numbers of texts of letters tell them apart but for case.
use Rattle.std.proofs.lemmas.List.Sums.{AllPass-from_list_all}
use Rattle.langtag_scan.proofs.Prelude.{common_steps, ◌≡◌, ℕ, ◌+◌, ◌*◌, ◌-◌, ◌<◌, ◌≤◌, true, ◌==◌, List, [], ◌∷◌, length, get_or, map, refl, sym, arith, AllByRecursion, and_parts, false_from_ne_true, eqb_tells, nat_tests, fold-map, fold}
use Rattle.langtag_scan.specs.Grammar.{fold_byte, fold_text, are_alike, are_alike-decides, is_letter, are_letters, has_length, is_primary, is_extended}
use Rattle.langtag_text.specs.Numbers.{letter, letter_number}
use Rattle.langtag_scan.proofs.Digits.{IsBase, digits-same}

pub record IsPlace (d : ℕ) : Type 0 where
  pub some : 1 ≤ d
  pub most : d ≤ 26

base_26 : IsBase 26 IsPlace
base_26 = grind (arith, common_steps)

pub letter_place : (b : ℕ) → is_letter b ≡ true → IsPlace (letter b)
unfolding is_letter fold_byte
letter_place b h = record { some = grind (arith, nat_tests); most = grind (arith, nat_tests) }

letter_back : (b : ℕ) → is_letter b ≡ true → letter b + 96 ≡ fold_byte b
unfolding is_letter fold_byte
letter_back b h = grind (arith, nat_tests)

letter_places : (text : List ℕ) → are_letters text ≡ true → AllByRecursion IsPlace (map letter text)
letter_places [] h = tt
letter_places (b ∷ text) h = let k = and_parts (is_letter b) (are_letters text) h in (letter_place b k.0, letter_places text k.1)

letters_back : (text : List ℕ) → are_letters text ≡ true → map (λ d. d + 96) (map letter text) ≡ fold_text text
letters_back [] h = refl
letters_back (b ∷ text) h = grind (arith, nat_tests, and_parts, letter_back, letters_back text)

letter_number-fold : (text : List ℕ) → letter_number text ≡ fold (λ number d. number * 26 + d) 0 (map letter text)
unfolding letter_number
letter_number-fold text = sym (fold-map (λ number d. number * 26 + d) letter 0 text)

-- the letters follow from the fold
letter_number-of_fold : (text : List ℕ) → letter_number text ≡ fold (λ number b. number * 26 + (b - 96)) 0 (fold_text text)
unfolding letter_number
letter_number-of_fold text = sym (fold-map (λ number b. number * 26 + (b - 96)) fold_byte 0 text)

pub letter_number-tells : (a b : List ℕ) → are_letters a ≡ true → are_letters b ≡ true → (letter_number b == letter_number a) ≡ are_alike a b
letter_number-tells a b al bl =
    grind (arith, nat_tests, eqb_tells (letter_number b) (letter_number a), digits-same 26 IsPlace base_26 (map letter a) (map letter b), letter_places, letter_number-fold, letters_back, are_alike-decides a b, false_from_ne_true, letter_number-of_fold)

-- the number of a text of two letters, and of three
pub number_of_two : (text : List ℕ) → length text ≡ 2 → letter_number text ≡ letter (get_or text 0 0) * 26 + letter (get_or text 1 0)
unfolding letter_number
number_of_two text h = grind (arith, common_steps)

pub number_of_three :
    (text : List ℕ) → length text ≡ 3 →
    letter_number text ≡ (letter (get_or text 0 0) * 26 + letter (get_or text 1 0)) * 26 + letter (get_or text 2 0)
unfolding letter_number
number_of_three text h = grind (arith, common_steps)

-- ---- primary language subtags

pub primary_letters : (text : List ℕ) → is_primary text ≡ true → are_letters text ≡ true
unfolding is_primary
primary_letters text h = (and_parts (has_length 2 8 text) (are_letters text) h).1

pub primary_length : (text : List ℕ) → is_primary text ≡ true → 2 ≤ length text
unfolding is_primary
primary_length text h = grind (arith, nat_tests)

pub letter_at : (text : List ℕ) (k : ℕ) → is_primary text ≡ true → k < length text → is_letter (get_or text k 0) ≡ true
letter_at text k h inside = AllPass-from_list_all is_letter text (primary_letters text h) k 0 inside

-- an extended subtag could be a primary one
pub extended_primary : (text : List ℕ) → is_extended text ≡ true → is_primary text ≡ true
unfolding is_extended is_primary
extended_primary text h = grind (arith, nat_tests)
