-- All tags that suit a reader, best first.
use Rattle.std.specs.Prelude.{◌≡◌, ◌≢◌, ◌⊎◌, ℕ, ◌<◌, ◌≤◌, ◌-◌, List, [], ◌∷◌, Option, Some, None, length, slice_get, slice_set, AllPairs, Contains, Bool, false, not, ◌&&◌, count_by}
use Rattle.langtag_scan.specs.Prelude.{list_any, option_map_or}
use Rattle.langtag_range.specs.Definitions.{Element}
use Rattle.langtag_choice.specs.Best.{IsChoice, Pair, is_refused}
use Rattle.langtag_choice.specs.Serves.{serves}

-- ---- the definition

-- the tags without the tag at an index; the other tags keep their indices
abbrev pub without : List (Option (List ℕ)) → ℕ → List (Option (List ℕ))
without tags index = slice_set tags index None

-- the indices of the suitable tags, best first, as far as there is room: the choice among the tags, the choice among the
-- other tags, and so on. The list ends where there is no room, or no other tag is suitable
abbrev pub AreSuitable : List Element → List (Option (List ℕ)) → ℕ → List ℕ → Type 0
AreSuitable elements tags room [] = 0 < room → IsChoice elements tags None
AreSuitable elements tags room (index ∷ indices) =
    (0 < room) × IsChoice elements tags (Some index) × AreSuitable elements (without tags index) (room - 1) indices

-- ---- what follows from it

-- the first index is the choice
abbrev pub BeginsWithChoice : List Element → List (Option (List ℕ)) → ℕ → List ℕ → Type 0
BeginsWithChoice elements tags room indices = 0 < room → IsChoice elements tags (slice_get indices 0)

-- no index comes twice
abbrev pub AreDistinct : List ℕ → Type 0
AreDistinct indices = AllPairs (λ index later. index ≢ later) indices

-- a tag that may serve a range and is not refused stands at this index
abbrev pub IsServing : List Element → List (Option (List ℕ)) → ℕ → Type 0
IsServing elements tags index = (pair : Pair elements tags) × (pair.index ≡ index)

-- whether an entry is a tag that may serve a range and is not refused
abbrev pub is_suitable : List Element → Option (List ℕ) → Bool
is_suitable elements entry =
    option_map_or (λ tag. list_any (λ element. serves element tag) elements && not (is_refused elements tag)) entry false

-- the number of these tags
abbrev pub suitable_count : List Element → List (Option (List ℕ)) → ℕ
suitable_count elements tags = count_by (is_suitable elements) tags

-- if there is room for more, or for all tags, no tag is left out
abbrev pub LeavesNoneOut : List Element → List (Option (List ℕ)) → ℕ → List ℕ → Type 0
LeavesNoneOut elements tags room indices =
    (length indices < room) ⊎ (length tags ≤ room) → (index : ℕ) → IsServing elements tags index → Contains indices index
