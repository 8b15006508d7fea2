-- The words of the texts that contain the data of the tables.
use Rattle.std.specs.Prelude.{ℕ, ◌==◌, List}
use Rattle.langtag_scan.specs.Prelude.{slice_split}

-- the words of a text, which are separated by spaces
abbrev pub words : List ℕ → List (List ℕ)
words text = slice_split (λ b. b == 32) text
