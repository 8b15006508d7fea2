-- How long ranges are as they are read, and that lookup finds no tag that is longer than its range.
use Rattle.langtag_scan.proofs.Prelude.{◌≡◌, ℕ, ◌<◌, ◌==◌, Bool, true, false, List, [], ◌∷◌, length, take, length-take, list_any, ap, arith, nat_tests, common_steps}
use Rattle.langtag_scan.specs.Grammar.{are_alike, are_alike-decides}
use Rattle.langtag_scan.proofs.CaseLaw.{length-fold}
use Rattle.langtag_range.specs.Definitions.{basic_text}
use Rattle.langtag_cldr.specs.Definitions.{BeginsPlain}
use Rattle.langtag_cldr.proofs.CommonTexts.{length_read, read_byte, read_nothing}
use Rattle.langtag_choice.specs.Nearness.{is_fallback}

abbrev is_star_byte : ℕ → Bool
is_star_byte byte = byte == 42

begins_plain : (a : ℕ) (range : List ℕ) → list_any is_star_byte range ≡ false → BeginsPlain (a ∷ range)
begins_plain a [] none = grind (arith, nat_tests, common_steps)
begins_plain a (b ∷ range) none = grind (arith, nat_tests, common_steps)

-- nothing is left out of a range without "*"
pub starless : (range : List ℕ) → list_any (λ byte. byte == 42) range ≡ false → length (basic_text range) ≡ length range
starless [] none = ap length read_nothing
starless (a ∷ range) none = grind (arith, nat_tests, common_steps, read_byte a range, begins_plain a range, starless range)

alike_lengths : (a b : List ℕ) → are_alike a b ≡ true → length a ≡ length b
alike_lengths a b alike = grind (arith, common_steps, are_alike-decides a b, length-fold a, length-fold b)

pub longer_tag : (range tag : List ℕ) → length range < length tag → is_fallback (basic_text range) tag ≡ false
longer_tag range tag longer = grind (arith, nat_tests, common_steps, length_read range, length-take, alike_lengths (take (length tag) (basic_text range)) tag)
