-- The choice: the best of some tags for a reader's language ranges and their weights.
use Rattle.std.specs.Prelude.{◌≡◌, ℕ, Bool, false, not, ◌&&◌, if◌then◌else◌, IsTrue, List, [], ◌∷◌, Option, Some, MatchOption, IfSome, length, max, nat_lt, slice_get}
use Rattle.langtag_choice.specs.Distance.{distance_of_texts}
use Rattle.langtag_choice.specs.Serves.{IsAtMost, is_excluded, is_wish, rank, serves}
use Rattle.langtag_range.specs.Definitions.{Element, test_basic, is_star, basic_text}
use Rattle.langtag_choice.specs.declared.best_match.BestMatch.{BestMatch}

-- ---- which tags are refused

-- whether a range other than "*" matches a tag by basic filtering (RFC 4647 section 3.3.1)
abbrev pub matches : Element → List ℕ → Bool
matches element tag = not (is_star element.range) && test_basic element.range tag

-- the length of the longest range that matches a tag, among the ranges of one kind
abbrev pub longest : (Element → Bool) → List Element → List ℕ → ℕ
longest of_kind [] tag = 0
longest of_kind (element ∷ elements) tag =
    if of_kind element && matches element tag then max (length element.range) (longest of_kind elements tag)
    else longest of_kind elements tag

-- whether the longest range that matches a tag has the weight 0
unfoldable pub is_refused : List Element → List ℕ → Bool
is_refused elements tag = nat_lt (longest is_wish elements tag) (longest is_excluded elements tag)

-- ---- the choice

-- a range, and a tag that may serve the range and is not refused
pub record Pair (elements : List Element) (tags : List (Option (List ℕ))) : Type 0 where
  pub place : ℕ
  pub element : Element
  pub wanted : slice_get elements place ≡ Some element
  pub index : ℕ
  pub tag : List ℕ
  pub there : slice_get tags index ≡ Some (Some tag)
  pub served : IsTrue (serves element tag)
  pub unrefused : is_refused elements tag ≡ false

abbrev pub rank_of_pair : (elements : List Element) (tags : List (Option (List ℕ))) → Pair elements tags → List ℕ
rank_of_pair elements tags pair = rank pair.place pair.element pair.index pair.tag

-- the tag at an index belongs to the pair with the least rank
pub record IsLeast (elements : List Element) (tags : List (Option (List ℕ))) (index : ℕ) : Type 0 where
  pub pair : Pair elements tags
  pub here : pair.index ≡ index
  pub least : (other : Pair elements tags) → IsAtMost (rank_of_pair elements tags pair) (rank_of_pair elements tags other)

-- the choice is the index of the tag in the pair with the least rank, or `None` if there is no pair
abbrev pub IsChoice : List Element → List (Option (List ℕ)) → Option ℕ → Type 0
IsChoice elements tags answer = MatchOption answer (Pair elements tags → ⊥) (IsLeast elements tags)

-- the match describes the pair with the least rank: the index of its tag, its range, the number of ranges before that
-- range, and the distance from the range to the tag
pub record IsMatchOf (elements : List Element) (tags : List (Option (List ℕ))) (found : BestMatch) : Type 0 where
  pub pair : Pair elements tags
  pub index : found.index ≡ pair.index
  pub place : found.place ≡ pair.place
  pub range : basic_text found.range.now ≡ pair.element.range
  pub distance : found.distance ≡ distance_of_texts pair.element.range pair.tag
  pub least : (other : Pair elements tags) → IsAtMost (rank_of_pair elements tags pair) (rank_of_pair elements tags other)

-- the match of the pair with the least rank, or `None` if there is no pair
abbrev pub IsMatch : List Element → List (Option (List ℕ)) → Option BestMatch → Type 0
IsMatch elements tags answer = MatchOption answer (Pair elements tags → ⊥) (IsMatchOf elements tags)

-- the range of the match is the one at its place in the list, as it is written there
abbrev pub IsWritten : List (List ℕ) → Option BestMatch → Type 0
IsWritten ranges answer = IfSome answer (λ found. slice_get ranges found.place ≡ Some found.range.now)
