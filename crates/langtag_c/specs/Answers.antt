-- The numbers that the functions return.
use Rattle.std.specs.Prelude.{◌≡◌, ◌↔◌, ℕ, ℤ, pos, negsuc, ◌≤◌, ◌*◌, ◌%◌, ◌^◌, List, fold, filter, ◌+◌, ◌-◌, Bool, false, IsTrue, if◌then◌else◌, Option, None, Some, bit_xor}
use Rattle.langtag_scan.specs.Prelude.{Ordering, Less, Equal, Greater}
use Rattle.langtag_scan.specs.Grammar.{fold_byte, is_digit, IsNormal, IsPrivate, IsIrregular, IsTag}
use Rattle.langtag_match.specs.Definitions.{is_language_range, is_basic_range}

-- the number for the kind of a text: 1 for a normal tag, 2 for private use, 3 for an irregular tag, and 0 for a text
-- that is not a tag
pub record IsKind (text : List ℕ) (kind : ℕ) : Type 0 where
  pub few : kind ≤ 3
  pub none : kind ≡ 0 ↔ (IsTag text → ⊥)
  pub normal : kind ≡ 1 ↔ IsNormal text
  pub private_use : kind ≡ 2 ↔ IsPrivate text
  pub irregular : kind ≡ 3 ↔ IsIrregular text

-- the number for an order: -1, 0 or 1
abbrev pub sign : Ordering → ℤ
sign Less = negsuc 0
sign Equal = pos 0
sign Greater = pos 1

-- the 64-bit FNV-1a hash of the folded bytes, which starts from a state
abbrev pub fnv : ℕ → List ℕ → ℕ
fnv state text = fold (λ h b. (bit_xor h (fold_byte b) * 1099511628211) % 2 ^ 64) state text

-- 1 for a repeated variant, plus 2 for a repeated singleton
abbrev pub repeat_flags : Bool → Bool → ℕ
repeat_flags variant singleton = (if variant then 1 else 0) + (if singleton then 2 else 0)

-- the number for a text: 1 for a basic language range, 2 for an extended range that is not basic, and 0 for a text that
-- is not a range
pub record IsRangeKind (text : List ℕ) (kind : ℕ) : Type 0 where
  pub few : kind ≤ 2
  pub none : kind ≡ 0 ↔ (is_language_range text ≡ false)
  pub basic : kind ≡ 1 ↔ IsTrue (is_basic_range text)

-- the first text is a range, the second text is a tag, and the range matches the tag
pub record IsRangeMatch (Matches : List ℕ → List ℕ → Type 0) (range tag : List ℕ) : Type 0 where
  pub of_range : IsTrue (is_language_range range)
  pub of_tag : IsTag tag
  pub matches : Matches range tag

-- the digits of a text, read as one number: 20250131 for 2025-01-31
abbrev pub digits_number : List ℕ → ℕ
digits_number text = fold (λ number digit. number * 10 + (digit - 48)) 0 (filter is_digit text)

-- the text if the answer is true, or `None` if it is false
abbrev pub answered : Bool → List ℕ → Option (List ℕ)
answered answer text = if answer then Some text else None
