-- What a block of variants contains during the search for the first repeated variant. Only contracts of private
-- functions cite this page.
use Rattle.std.specs.Prelude.{◌≡◌, ℕ, ◌<◌, ◌≤◌, Bool, false, ◌==◌, List, map, take, drop, length, slice_index, slice_index_or, [], Option, None, Some, IsPermutation}
use Rattle.langtag_scan.specs.Grammar.{list_any, are_alike, folded_number}
use Rattle.langtag_place.specs.Repeat.{repeat_index}

-- no text before the index `end` equals an earlier text, ignoring case
abbrev pub HasNoRepeatBefore : ℕ → List (List ℕ) → Type 0
HasNoRepeatBefore end texts = (i : ℕ) → i < end → list_any (are_alike (slice_index_or texts i [])) (take i texts) ≡ false

-- the first repeat of the texts has this index; if no index is given, there is no repeat before `end`
abbrev pub IsRepeatBefore : ℕ → List (List ℕ) → Option ℕ → Type 0
IsRepeatBefore end texts None = HasNoRepeatBefore end texts
IsRepeatBefore end texts (Some index) = Some index ≡ repeat_index are_alike texts

-- a block contains, in any order, the numbers of the texts from `start` on, one number for each of its elements
abbrev pub HoldsFrom : ℕ → List (List ℕ) → List ℕ → Type 0
HoldsFrom start texts block = IsPermutation (map folded_number (take (length block) (drop start texts))) block

-- the first index of a number in a block, or the index at which it would have to be inserted. All numbers before that
-- index are smaller, and all other numbers are not
pub record IsPlaceOf (block : List ℕ) (number place : ℕ) : Type 0 where
  pub within : place ≤ length block
  pub below : (k : ℕ) → k < place → slice_index block k < number
  pub above : (k : ℕ) → place ≤ k → k < length block → number ≤ slice_index block k

-- this index is the first index at which the block has that number
abbrev pub IsFirstPlace : List ℕ → ℕ → Type 0
IsFirstPlace block place = (place < length block) × ((k : ℕ) → k < place → slice_index block k < slice_index block place)

-- the flag at the first index of each number in a block says whether the number is in the list `numbers`
abbrev pub AreMet : List ℕ → List Bool → List ℕ → Type 0
AreMet block met numbers = (place : ℕ) → IsFirstPlace block place → slice_index_or met place false ≡ list_any (λ other. other == slice_index block place) numbers
