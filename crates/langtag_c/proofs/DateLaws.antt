-- The number of a date, digit by digit.
use Rattle.langtag_scan.proofs.Prelude.{◌≡◌, ℕ, ◌+◌, ◌-◌, ◌*◌, ◌<◌, ◌≤◌, true, false, ltb, List, [], ◌∷◌, drop, length, fold, get_or, refl, ◌∙◌, arith, ltb-true, at_drop_more, nat_tests, filter}
use Rattle.langtag_scan.specs.Grammar.{is_digit}
use Rattle.langtag_registry.specs.tables.TheConstants.{FILE_DATE}
use Rattle.langtag_c.specs.Answers.{digits_number}

-- what a number becomes by the digits of a text that follow it
abbrev pub continued : ℕ → List ℕ → ℕ
continued number text = fold (λ number digit. number * 10 + (digit - 48)) number (filter is_digit text)

pub continued_digit :
    (number : ℕ) (text : List ℕ) (i : ℕ) → i < length text → is_digit (get_or text i 0) ≡ true →
    continued number (drop i text) ≡ continued (number * 10 + (get_or text i 0 - 48)) (drop (i + 1) text)
continued_digit number text i below digit = at_drop_more (continued number) text i 0 below ∙ rw digit refl

pub continued_other :
    (number : ℕ) (text : List ℕ) (i : ℕ) → i < length text → is_digit (get_or text i 0) ≡ false →
    continued number (drop i text) ≡ continued number (drop (i + 1) text)
continued_other number text i below other = at_drop_more (continued number) text i 0 below ∙ rw other refl

pub continued_grows : (number : ℕ) (digits : List ℕ) → number ≤ fold (λ number digit. number * 10 + (digit - 48)) number digits
continued_grows number [] = omega arith
continued_grows number (d ∷ digits) = let later = continued_grows (number * 10 + (d - 48)) digits in omega (arith, later)

-- a digit more still fits where the whole number does
pub digit_fits :
    (number : ℕ) (date : List ℕ) (i : ℕ) → digits_number date < 4294967296 → continued number (drop i date) ≡ digits_number date → i < length date →
    is_digit (get_or date i 0) ≡ true → number * 10 + (get_or date i 0 - 48) < 4294967296
digit_fits number date i fits rest below digit = grind (arith, nat_tests, continued_digit number date i below digit, continued_grows)

-- the date of the registry does: by computation
date_digits : ltb (digits_number FILE_DATE.now) 4294967296 ≡ true
unfolding is_digit
date_digits = refl

pub date_fits : digits_number FILE_DATE.now < 4294967296
date_fits = ltb-true (digits_number FILE_DATE.now) 4294967296 date_digits
