-- The classes of subtags by the numbers of their bytes.
use Rattle.langtag_scan.proofs.Prelude.{◌≡◌, ◌==◌, ◌&&◌, ◌||◌, not, ℕ, List, length, refl, is_ascii_alphabetic, is_ascii_digit, is_in_range, list_all}
use Rattle.langtag_scan.specs.Class.{is_letter, is_digit, is_mark, is_singleton, is_extension_subtag}

-- a letter or digit other than x
pub singleton_numbers : (b : ℕ) → is_singleton b ≡ ((is_ascii_alphabetic b || is_ascii_digit b) && not ((b == 120) || (b == 88)))
unfolding is_letter is_digit is_mark is_singleton
singleton_numbers b = refl

-- two to eight letters and digits
pub extension_subtag_numbers :
    (s : List ℕ) →
    is_extension_subtag s ≡ (is_in_range 2 8 (length s) && list_all (λ b. is_ascii_alphabetic b || is_ascii_digit b) s)
unfolding is_letter is_digit is_extension_subtag
extension_subtag_numbers s = refl
