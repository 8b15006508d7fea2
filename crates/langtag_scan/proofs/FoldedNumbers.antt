-- The numbers of texts of letters and digits tell them apart but for case.
use Rattle.langtag_scan.proofs.Prelude.{◌≡◌, ℕ, ◌+◌, ◌*◌, ◌<◌, ◌≤◌, true, ◌==◌, List, [], ◌∷◌, Bool, refl, arith, rules, map, list_any, list_all, AllByRecursion, ◌^◌, common_steps, and_parts, false_from_ne_true, eqb_tells, nat_tests, fold-map}
use Rattle.std.proofs.Math.Nat.{pow-le-pow_right}
use Rattle.std.proofs.lemmas.Grind.{pow_more}
use Rattle.langtag_scan.specs.Grammar.{fold_byte, fold_text, are_alike, folded_number, is_letter, is_digit, is_alphanumeric, are_alphanumeric}
use Rattle.langtag_scan.proofs.Digits.{IsBase, digits-same}

pub record IsByte (d : ℕ) : Type 0 where
  pub some : 1 ≤ d
  pub most : d < 256

base_256 : IsBase 256 IsByte
base_256 = grind (arith, common_steps)

fold_digit : (b : ℕ) → is_alphanumeric b ≡ true → IsByte (fold_byte b)
unfolding is_letter is_digit fold_byte
fold_digit b h = record { some = grind (arith, nat_tests); most = grind (arith, nat_tests) }

pub fold_digits : (text : List ℕ) → are_alphanumeric text ≡ true → AllByRecursion IsByte (fold_text text)
fold_digits [] h = tt
fold_digits (b ∷ text) h = let k = and_parts (is_alphanumeric b) (are_alphanumeric text) h in (fold_digit b k.0, fold_digits text k.1)

pub folded_number-tells : (a b : List ℕ) → are_alphanumeric a ≡ true → are_alphanumeric b ≡ true → (folded_number b == folded_number a) ≡ are_alike a b
unfolding folded_number
folded_number-tells a b al bl = search (rules, eqb_tells, digits-same, base_256, fold_digits, fold-map, false_from_ne_true)

-- ---- a text is one of a list where its number is one of the list's numbers

module _ (number : List ℕ → ℕ) (is_good : List ℕ → Bool) (tells : (a b : List ℕ) → is_good a ≡ true → is_good b ≡ true → (number b == number a) ≡ are_alike a b) where
  pub among-numbers :
      (text : List ℕ) (list : List (List ℕ)) → is_good text ≡ true → list_all is_good list ≡ true →
      list_any (are_alike text) list ≡ list_any (λ n. n == number text) (map number list)
  among-numbers text [] good all = refl
  among-numbers text (first ∷ list) good all = grind (arith, nat_tests, and_parts, among-numbers text list good)

pub among-folded :
    (text : List ℕ) (list : List (List ℕ)) → are_alphanumeric text ≡ true → list_all are_alphanumeric list ≡ true →
    list_any (are_alike text) list ≡ list_any (λ n. n == folded_number text) (map folded_number list)
among-folded = among-numbers folded_number are_alphanumeric folded_number-tells

-- ---- a number of few digits fits

pub digit_fits : (number i byte : ℕ) → number < 256 ^ i → byte < 256 → number * 256 + byte < 256 ^ (i + 1)
digit_fits number i byte below small = let more = pow_more 256 i in omega (arith, more, below, small)

pub fits_64 : (number i : ℕ) → number < 256 ^ i → i ≤ 8 → number < 18446744073709551616
fits_64 number i below short = let most = pow-le-pow_right {n = 256} (omega arith) short in omega (arith, most, below)
