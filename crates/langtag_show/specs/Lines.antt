-- The lines of an input. LF (10) ends a line. A last line without LF counts if it is not empty.
use Rattle.std.specs.Prelude.{◌≡◌, ℕ, ◌-◌, ◌==◌, Bool, false, List, [], ◌∷◌, ◌++◌, length, take, slice_index_or}
use Rattle.std.specs.List.{slice_split, flat_map, All, AllByRecursion}

abbrev pub is_line_feed : ℕ → Bool
is_line_feed b = b == 10

-- no byte of a text is LF
abbrev pub NoLineFeed : List ℕ → Type 0
NoLineFeed text = All (λ b. is_line_feed b ≡ false) text

-- a text with an LF at its end
abbrev pub ended : List ℕ → List ℕ
ended text = text ++ 10 ∷ []

-- the texts between the LFs of an input; there is one more text than there are LFs
abbrev pub pieces : List ℕ → List (List ℕ)
pieces input = slice_split is_line_feed input

-- the lines that an LF ends: all pieces except the last
unfoldable pub complete_lines : List ℕ → List (List ℕ)
complete_lines input = take (length (pieces input) - 1) (pieces input)

-- the rest after the last LF, which is the last piece
unfoldable pub rest_of : List ℕ → List ℕ
rest_of input = slice_index_or (pieces input) (length (pieces input) - 1) []

-- the last line: the rest, if it is not empty
abbrev pub last_line : List ℕ → List (List ℕ)
last_line [] = []
last_line (b ∷ bs) = (b ∷ bs) ∷ []

-- all lines of an input
abbrev pub lines_of : List ℕ → List (List ℕ)
lines_of input = complete_lines input ++ last_line (rest_of input)

-- the input consists of these lines, each with an LF at its end, and this rest. The contract of `run` states that there
-- is only one way to cut an input
pub record IsCutInto (input : List ℕ) (lines : List (List ℕ)) (rest : List ℕ) : Type 0 where
  pub joined : flat_map ended lines ++ rest ≡ input
  pub lines_free : AllByRecursion NoLineFeed lines
  pub rest_free : NoLineFeed rest
