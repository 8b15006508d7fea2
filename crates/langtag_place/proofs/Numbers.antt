-- The classes of subtags by the numbers of their bytes.
use Rattle.langtag_scan.proofs.Prelude.{◌≡◌, ◌==◌, ◌&&◌, ◌||◌, ℕ, List, length, slice_index, refl, arith, is_ascii_alphabetic, is_ascii_digit, is_in_range, list_all, common_steps}
use Rattle.langtag_scan.specs.Class.{is_letter, is_digit, is_script, is_region, is_variant}

-- four letters
pub script_numbers : (s : List ℕ) → is_script s ≡ ((length s == 4) && list_all is_ascii_alphabetic s)
unfolding is_letter is_script
script_numbers s = refl

-- two letters, or three digits
pub region_numbers :
    (s : List ℕ) →
    is_region s ≡ (((length s == 2) && list_all is_ascii_alphabetic s) || ((length s == 3) && list_all is_ascii_digit s))
unfolding is_letter is_digit is_region
region_numbers s = refl

-- five to eight letters and digits, or four of which the first is a digit
pub variant_numbers :
    (s : List ℕ) →
    is_variant s ≡
    ((is_in_range 5 8 (length s) && list_all (λ b. is_ascii_alphabetic b || is_ascii_digit b) s)
    || ((length s == 4) && list_all (λ b. is_ascii_alphabetic b || is_ascii_digit b) s && is_ascii_digit (slice_index s 0)))
unfolding is_letter is_digit is_variant
variant_numbers s = grind (arith, common_steps)
