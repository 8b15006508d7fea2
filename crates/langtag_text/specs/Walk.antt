-- How a text in its recommended case is written piece by piece. Only the view of `RecommendedBytes` and contracts of
-- private functions cite this page. The contract of `RecommendedBytes::new` says that the pieces make up the
-- recommended text.
use Rattle.std.specs.Prelude.{◌≡◌, ◌≤◌, ◌==◌, ◌-◌, ℕ, List, [], ◌∷◌, ◌++◌, if◌then◌else◌, length, map, take, drop}
use Rattle.langtag_scan.specs.Grammar.{to_ascii_uppercase, fold_byte, fold_text, is_single, join, segments}
use Rattle.langtag_text.specs.RecommendedCase.{by_length}

-- the text with the letters among its first `capitals` bytes in uppercase, and all other letters in lowercase
abbrev pub cased : ℕ → List ℕ → List ℕ
cased capitals [] = []
cased capitals (b ∷ text) = (if capitals == 0 then fold_byte b else to_ascii_uppercase b) ∷ cased (capitals - 1) text

-- the recommended case of subtags that follow the first subtag of a tag, with no singleton before them
abbrev pub later : List (List ℕ) → List (List ℕ)
later [] = []
later (s ∷ ss) = if is_single s then map fold_text (s ∷ ss) else (by_length s ∷ later ss)

-- the recommended text of the subtags in `text`, which follow the first subtag of a tag, with no singleton before them
abbrev pub later_text : List ℕ → List ℕ
later_text text = join (later (segments text))

-- the recommended text of what follows a piece: nothing, or a hyphen and more subtags
abbrev pub after_piece : List ℕ → List ℕ
after_piece [] = []
after_piece (hyphen ∷ text) = hyphen ∷ later_text text

-- the recommended text begins with a piece of `len` bytes, of which the letters among the first `capitals` are
-- uppercase
pub record BeginsWith (text : List ℕ) (len capitals : ℕ) (recommended : List ℕ) : Type 0 where
  pub order : capitals ≤ len
  pub within : len ≤ length text
  pub case : recommended ≡ cased capitals (take len text) ++ after_piece (drop len text)
