-- The language, the script and the region of a tag.
use Rattle.std.specs.Prelude.{ℕ, List, [], ◌∷◌, Option, None, Some}

-- a language, a script and a region, each of which is the empty text if it is absent
pub record Fields : Type 0 where
  pub language : List ℕ
  pub script : List ℕ
  pub region : List ℕ

-- the subtag of a field, or `None` if the field is empty
abbrev pub subtag_of : List ℕ → Option (List ℕ)
subtag_of [] = None
subtag_of (b ∷ text) = Some (b ∷ text)
