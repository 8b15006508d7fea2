-- Which prefixes of a text are viable, which means that some tag begins with them.
use Rattle.std.specs.Prelude.{◌≡◌, ℕ, ◌-◌, ◌<◌, ◌≤◌, ◌⊎◌, List, ◌++◌, length, take, replicate, slice_get, Some}
use Rattle.langtag_scan.specs.Prelude.{after_last}
use Rattle.langtag_scan.specs.Subtags.{is_hyphen}
use Rattle.langtag_scan.specs.Case.{Alike}
use Rattle.langtag_scan.specs.Grandfathered.{irregular_texts}
use Rattle.langtag_scan.specs.Tag.{IsTag}

-- some tag begins with this text
unfoldable pub IsViable : List ℕ → Type 0
IsViable p = (u : List ℕ) × IsTag (p ++ u)

-- n is the length of the shortest prefix that is not viable, or the length of the text if all its prefixes are viable
pub record IsStop (t : List ℕ) (n : ℕ) : Type 0 where
  pub within : n ≤ length t
  pub before : (k : ℕ) → k < n → IsViable (take k t)
  pub at : (IsViable (take n t) × (n ≡ length t)) ⊎ (IsViable (take n t) → ⊥)

-- each prefix of at most this length is viable, and no longer prefix is
pub record IsViableLength (t : List ℕ) (n : ℕ) : Type 0 where
  pub within : n ≤ length t
  pub viable : (k : ℕ) → k ≤ n → IsViable (take k t)
  pub longest : (k : ℕ) → n < k → k ≤ length t → IsViable (take k t) → ⊥

-- the letters `a` that pad a subtag to five bytes
abbrev pub filling : List ℕ → List ℕ
filling s = replicate (5 - length s) 97

-- the text with its last subtag padded. A text is viable if and only if the padded text is a tag, or the text itself is
-- a prefix of an irregular tag
abbrev pub fill : List ℕ → List ℕ
fill p = p ++ filling (after_last is_hyphen p)

-- the text equals a prefix of an irregular tag, ignoring case
unfoldable pub IsIrregularPrefix : List ℕ → Type 0
IsIrregularPrefix p = (index : ℕ) × (name : List ℕ) × (slice_get irregular_texts index ≡ Some name) × Alike p (take (length p) name)
