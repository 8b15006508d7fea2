-- The classes of subtags by the numbers of their bytes.
use Rattle.langtag_scan.proofs.Prelude.{◌≡◌, ◌==◌, ◌&&◌, ℕ, List, length, refl, is_ascii_alphabetic, is_in_range, list_all}
use Rattle.langtag_scan.specs.Class.{is_letter, is_primary, is_extended}

-- two to eight letters
pub primary_numbers : (s : List ℕ) → is_primary s ≡ (is_in_range 2 8 (length s) && list_all is_ascii_alphabetic s)
unfolding is_letter is_primary
primary_numbers s = refl

-- three letters
pub extended_numbers : (s : List ℕ) → is_extended s ≡ ((length s == 3) && list_all is_ascii_alphabetic s)
unfolding is_letter is_extended
extended_numbers s = refl
