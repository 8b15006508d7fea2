-- Where an element of a list first passes a test.
use Rattle.langtag_scan.proofs.Prelude.{◌≡◌, ℕ, ◌<◌, Bool, true, false, not, List, length, arith, unwrap_or, list_any, position, position_or_len, nat_tests, list_any_at, list_any_none, fails_before_first, prefix_len-le-length}
use Rattle.std.proofs.lemmas.List.Sums.{passes_at_first}

module _ (p : ℕ → Bool) (text : List ℕ) where
  pub first_or_length : unwrap_or (position p text) (length text) ≡ position_or_len p text
  first_or_length = grind (arith, nat_tests, prefix_len-le-length (λ byte. not (p byte)) text)

  -- some element passes where the first one that does has a place
  pub any_at_first : position_or_len p text < length text → list_any p text ≡ true
  any_at_first below = list_any_at p text (position_or_len p text) 0 below (passes_at_first p text 0 below)

  pub none_at_length : position_or_len p text ≡ length text → list_any p text ≡ false
  none_at_length is = list_any_none p text (λ k d within. fails_before_first p text k d (omega (arith, is, within)))
