-- Laws of the choice.
use Rattle.std.specs.Prelude.{◌≡◌, ℕ, ◌<◌, ◌≤◌, false, IsTrue, List, map, Option, Some, length, is_some, Contains, slice_get, option_map}
use Rattle.langtag_scan.specs.Grammar.{Alike, fold_text}
use Rattle.langtag_range.specs.Definitions.{Element, fallbacks, is_star, folded, wanted_elements}
use Rattle.langtag_choice.specs.Serves.{is_wish}
use Rattle.langtag_choice.specs.Best.{IsChoice, is_refused}

-- there is no other choice
abbrev pub IsOnlyChoice : List Element → List (Option (List ℕ)) → Option ℕ → Type 0
IsOnlyChoice elements tags answer = (other : Option ℕ) → IsChoice elements tags other → other ≡ answer

-- ---- where lookup finds a tag

-- lookup of a range finds a tag: the tag equals the range or one of its fallbacks (RFC 4647 section 3.4), ignoring
-- case
abbrev pub FallsBackTo : List ℕ → List ℕ → Type 0
FallsBackTo range tag = (text : List ℕ) × Contains (fallbacks range) text × Alike text tag

-- if lookup of a range with a weight above 0 finds a tag that is not refused, then some tag is chosen
abbrev pub AnswersLookUp : List Element → List (Option (List ℕ)) → Option ℕ → Type 0
AnswersLookUp elements tags answer =
    (place : ℕ) (element : Element) (index : ℕ) (tag : List ℕ) → slice_get elements place ≡ Some element → IsTrue (is_wish element) → is_star element.range ≡ false →
    slice_get tags index ≡ Some (Some tag) → is_refused elements tag ≡ false → 0 < length tag → FallsBackTo element.range tag → IsTrue (is_some answer)

-- ---- a tag that is the range itself

-- the element is the first element with the greatest weight
pub record IsHeaviest (elements : List Element) (place : ℕ) (element : Element) : Type 0 where
  pub there : slice_get elements place ≡ Some element
  pub most : (k : ℕ) (other : Element) → slice_get elements k ≡ Some other → other.weight ≤ element.weight
  pub first : (k : ℕ) (other : Element) → slice_get elements k ≡ Some other → k < place → other.weight < element.weight

-- the tag at an index is the first tag that equals a range, ignoring case, and is not refused
pub record IsFirstAlike (elements : List Element) (tags : List (Option (List ℕ))) (range : List ℕ) (index : ℕ) : Type 0 where
  pub tag : List ℕ
  pub there : slice_get tags index ≡ Some (Some tag)
  pub unrefused : is_refused elements tag ≡ false
  pub alike : Alike range tag
  pub first : (k : ℕ) (other : List ℕ) → slice_get tags k ≡ Some (Some other) → is_refused elements other ≡ false → Alike range other → index ≤ k

-- the first tag that equals the first range of the greatest weight is chosen
abbrev pub AnswersEqual : List Element → List (Option (List ℕ)) → Option ℕ → Type 0
AnswersEqual elements tags answer =
    (place : ℕ) (element : Element) (index : ℕ) → IsHeaviest elements place element → IsTrue (is_wish element) → element.weight ≤ 1000 → is_star element.range ≡ false →
    0 < length element.range → IsFirstAlike elements tags element.range index → answer ≡ Some index

-- ---- the case of letters

-- the choice is the same for all elements and tags that equal the given ones, ignoring case
abbrev pub IgnoresCase : List Element → List (Option (List ℕ)) → Option ℕ → Type 0
IgnoresCase elements tags answer =
    (other : List Element) (other_tags : List (Option (List ℕ))) → map folded elements ≡ map folded other → map (option_map fold_text) tags ≡ map (option_map fold_text) other_tags →
    IsChoice other other_tags answer

-- the choice stays the same if the header or the tags change only in the case of their letters
abbrev pub IgnoresHeaderCase : List ℕ → List (Option (List ℕ)) → Option ℕ → Type 0
IgnoresHeaderCase header tags answer =
    (other : List ℕ) (other_tags : List (Option (List ℕ))) → Alike header other → map (option_map fold_text) tags ≡ map (option_map fold_text) other_tags →
    IsChoice (wanted_elements other) other_tags answer
