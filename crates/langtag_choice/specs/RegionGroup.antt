-- The groups of regions (UN M.49, and a few of CLDR's), as they are read from the data.
use Rattle.std.specs.Prelude.{ℕ, List, [], ◌∷◌}

-- a group of regions: its code, and the regions in it, which are countries and smaller groups
pub record RegionGroup : Type 0 where
  pub code : List ℕ
  pub regions : List (List ℕ)

-- the group in a list of words, which begins with its code
abbrev pub groups_of_words : List (List ℕ) → List RegionGroup
groups_of_words [] = []
groups_of_words (code ∷ regions) = record { code = code; regions = regions } ∷ []

-- a group without regions
abbrev pub no_group : RegionGroup
no_group = record { code = []; regions = [] }
