-- The tags that remain when some are taken away. Only contracts of private functions cite this page.
use Rattle.std.specs.Prelude.{ℕ, ◌-◌, List, [], ◌∷◌, ◌++◌, Option, length}
use Rattle.langtag_range.specs.Definitions.{Element}
use Rattle.langtag_choice.specs.Suitable.{AreSuitable, without}

-- the tags without those at these indices; the other tags keep their indices
abbrev pub without_all : List (Option (List ℕ)) → List ℕ → List (Option (List ℕ))
without_all tags [] = tags
without_all tags (index ∷ indices) = without_all (without tags index) indices

-- these were chosen first: what is suitable among the other tags goes on with them
abbrev pub GoesOn : List Element → List (Option (List ℕ)) → ℕ → List ℕ → Type 0
GoesOn elements tags room chosen = (more : List ℕ) → AreSuitable elements (without_all tags chosen) (room - length chosen) more → AreSuitable elements tags room (chosen ++ more)
