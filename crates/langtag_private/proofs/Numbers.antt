-- The class of subtags by the numbers of their bytes.
use Rattle.langtag_scan.proofs.Prelude.{◌≡◌, ◌&&◌, ◌||◌, ℕ, List, length, refl, is_ascii_alphabetic, is_ascii_digit, is_in_range, list_all}
use Rattle.langtag_scan.specs.Class.{is_letter, is_digit, is_private_subtag}

-- one to eight letters and digits
pub private_subtag_numbers :
    (s : List ℕ) → is_private_subtag s ≡ (is_in_range 1 8 (length s) && list_all (λ b. is_ascii_alphabetic b || is_ascii_digit b) s)
unfolding is_letter is_digit is_private_subtag
private_subtag_numbers s = refl
