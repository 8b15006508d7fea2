-- Where the first fault is in a text that is not a tag (RFC 5646 section 2.1).
use Rattle.std.specs.Prelude.{◌≡◌, ℕ, ◌-◌, ◌<◌, ◌≤◌, ◌⊎◌, true, false, List, [], ◌∷◌, ◌++◌, length, take, slice_index}
use Rattle.langtag_scan.specs.Grammar.{AllWithin, is_alphanumeric, NoHyphenWithin, IsTag, IsViable, IsIrregularPrefix}

-- a tag may begin with these complete subtags: they are a tag, or some tag begins with these subtags and a hyphen
abbrev pub MayStand : List ℕ → Type 0
MayStand p = IsTag p ⊎ IsViable (p ++ 45 ∷ [])

-- the first wrong subtag ends at `end`, which is at a hyphen or at the end of the text. No tag begins with the subtags
-- up to `end`. For each earlier hyphen, some tag begins with the subtags before that hyphen
pub record IsRefusedEnd (t : List ℕ) (end : ℕ) : Type 0 where
  pub within : end ≤ length t
  pub hyphen : end < length t → slice_index t end ≡ 45
  pub refused : MayStand (take end t) → ⊥
  pub before : (k : ℕ) → k < end → slice_index t k ≡ 45 → MayStand (take k t)

-- the first wrong subtag is from `start` to `end`: it begins after a hyphen, or at the start of the text
pub record IsRefusedSubtag (t : List ℕ) (start : ℕ) (end : ℕ) : Type 0 where
  pub order : start ≤ end
  pub begins : 0 < start → slice_index t (start - 1) ≡ 45
  pub hyphen_free : NoHyphenWithin t start end
  pub ends : IsRefusedEnd t end

-- the last subtag is empty: the text is empty or ends with a hyphen
abbrev pub IsOpen : List ℕ → Type 0
IsOpen t = 0 < length t → slice_index t (length t - 1) ≡ 45

-- the text is not a tag, but some tag begins with it. In addition, a hyphen may follow the text, or its last subtag is
-- empty, or it is a prefix of an irregular tag
pub record EndsTooSoon (t : List ℕ) : Type 0 where
  pub no_tag : IsTag t → ⊥
  pub viable : IsViable t
  pub goes_on : IsViable (t ++ 45 ∷ []) ⊎ IsOpen t ⊎ IsIrregularPrefix t

-- all bytes between two indices are letters and digits
abbrev pub AlphanumericWithin : List ℕ → ℕ → ℕ → Type 0
AlphanumericWithin t low high = AllWithin (λ b. is_alphanumeric b ≡ true) t low high

-- the first byte between two indices that is neither a letter nor a digit
pub record IsFirstOther (t : List ℕ) (start : ℕ) (end : ℕ) (offset : ℕ) : Type 0 where
  pub from : start ≤ offset
  pub below : offset < end
  pub before : AlphanumericWithin t start offset
  pub other : is_alphanumeric (slice_index t offset) ≡ false
