-- A text that is written into a buffer piece by piece, while its bytes are counted.
use Rattle.std.specs.Prelude.{◌≡◌, ℕ, ◌-◌, ◌^◌, ◌≤◌, List, [], ◌∷◌, ◌++◌, length, drop, fold, min}
use Rattle.langtag_scan.specs.Prelude.{MutBor}
use Rattle.langtag_text.specs.declared.output.Output.{Output}

-- the text was written into the buffer `first`: if the text fits, it is at the start, and the rest of the buffer is
-- unchanged
pub record HasText (first : MutBor (List ℕ)) (out : Output) (text : List ℕ) : Type 0 where
  pub same_buffer : out.buffer.ghost_name ≡ first.ghost_name
  pub same_len : length out.buffer.now ≡ length first.now
  pub counted : out.len ≡ min (length text) (2 ^ 64 - 1)
  pub written : length text ≤ length first.now → out.buffer.now ≡ text ++ drop (length text) first.now

-- the bytes were appended to the text in the buffer
abbrev pub Appends : List ℕ → Output → Output → Type 0
Appends bytes old new = (first : MutBor (List ℕ)) (text : List ℕ) → HasText first old text → HasText first new (text ++ bytes)

-- a text with a subtag appended, after a hyphen if the text is not empty
unfoldable pub with_subtag : List ℕ → List ℕ → List ℕ
with_subtag [] subtag = subtag
with_subtag (b ∷ text) subtag = (b ∷ text) ++ 45 ∷ subtag

-- the subtags were appended to the text in the buffer
abbrev pub Pushes : List (List ℕ) → Output → Output → Type 0
Pushes subtags old new = (first : MutBor (List ℕ)) (text : List ℕ) → HasText first old text → HasText first new (fold with_subtag text subtags)

-- a text of this length was written into a buffer: if it fits, it is at the start, and the rest of the buffer is
-- unchanged
pub record IsCounted (text before after : List ℕ) (len : ℕ) : Type 0 where
  pub counted : len ≡ min (length text) (2 ^ 64 - 1)
  pub written : length text ≤ length before → after ≡ text ++ drop (length text) before
