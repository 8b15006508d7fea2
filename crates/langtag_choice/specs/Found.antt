-- What is found while the choice is made. Only contracts of private functions cite this page.
use Rattle.std.specs.Prelude.{◌≡◌, ◌⊎◌, ◌==◌, ◌&&◌, ℕ, ◌<◌, ◌-◌, Bool, true, false, not, nat_le, List, Option, Some, None, MatchOption, is_some, length, slice_get, slice_index_or}
use Rattle.langtag_scan.specs.Prelude.{option_map_or}
use Rattle.langtag_range.specs.Definitions.{Element, basic_text}
use Rattle.langtag_choice.specs.Candidates.{IsNotAfter, Keeps, rank_of}
use Rattle.langtag_choice.specs.Near.{wish_element}
use Rattle.langtag_choice.specs.Serves.{IsAtMost, rank, serves}
use Rattle.langtag_choice.specs.Best.{Pair, is_refused, rank_of_pair}
use Rattle.langtag_choice.specs.declared.candidate.Candidate.{Candidate}
use Rattle.langtag_choice.specs.declared.wish.Wish.{Wish}

-- the candidate is a tag, for one of the ranges
pub record IsAt (elements : List Element) (text : List ℕ) (c : Candidate) : Type 0 where
  pub element : Element
  pub wanted : slice_get elements c.rank.place ≡ Some element
  pub range : element.range ≡ basic_text c.range.now
  pub tag : c.tag.now ≡ text
  pub served : serves element text ≡ true
  pub same_rank : rank_of c ≡ rank c.rank.place element c.index text

-- the candidate is a range and an entry of the lists; if the entry is a tag, it may serve the range, but may be refused
pub record IsFor (elements : List Element) (tags : List (Option (List ℕ))) (c : Candidate) : Type 0 where
  pub among : c.rank.place < length elements
  pub inside : c.index < length tags
  pub there : (tag : List ℕ) → slice_get tags c.index ≡ Some (Some tag) → IsAt elements tag c

-- `old` and `new` are what was found before and after some pairs of a range and an entry were tried, which are given by the
-- place of the range and the index of the entry. `Covers` says that a pair with this index and rank adds nothing to what was
-- found, `Has` that a candidate was found, and `IsApart` that no tag was found twice
pub record TriesOf {S : Type 0} (Covers : S → ℕ → List ℕ → Type 0) (Has : S → Candidate → Type 0) (IsApart : S → Type 0) (elements : List Element) (tags : List (Option (List ℕ))) (is_tried : ℕ → ℕ → Bool) (old new : S) : Type 0 where
  pub keeps : (index : ℕ) (r : List ℕ) → Covers old index r → Covers new index r
  pub covers : (place : ℕ) (element : Element) (index : ℕ) (tag : List ℕ) → is_tried place index ≡ true → slice_get elements place ≡ Some element → slice_get tags index ≡ Some (Some tag) →
      serves element tag ≡ true → Covers new index (rank place element index tag)
  pub from : (c : Candidate) → Has new c → Has old c ⊎ ((is_tried c.rank.place c.index ≡ true) × IsFor elements tags c)
  pub apart : IsApart old → IsApart new

-- some entries were tried for the range at a place
abbrev pub TriesRangeOf : {S : Type 0} (Covers : S → ℕ → List ℕ → Type 0) (Has : S → Candidate → Type 0) (IsApart : S → Type 0) → Element → ℕ → List (Option (List ℕ)) → (ℕ → Bool) → S → S → Type 0
TriesRangeOf Covers Has IsApart element place tags is_tried old new =
    (elements : List Element) → slice_get elements place ≡ Some element → TriesOf Covers Has IsApart elements tags (λ p index. is_tried index && (p == place)) old new

-- ---- one candidate

abbrev pub Tries : List Element → List (Option (List ℕ)) → (ℕ → ℕ → Bool) → Option Candidate → Option Candidate → Type 0
Tries = TriesOf (λ found index. IsNotAfter found) (λ found c. found ≡ Some c) (λ found. Unit)

abbrev pub TriesRange : Element → ℕ → List (Option (List ℕ)) → (ℕ → Bool) → Option Candidate → Option Candidate → Type 0
TriesRange = TriesRangeOf (λ found index. IsNotAfter found) (λ found c. found ≡ Some c) (λ found. Unit)

-- what was found stays if some entries are tried for the range of a wish
abbrev pub AddsNothing : Wish → List (Option (List ℕ)) → (ℕ → Bool) → Type 0
AddsNothing wish tags is_tried = (found : Option Candidate) → TriesRange (wish_element wish) wish.place tags is_tried found found

-- ---- several candidates

-- one of the entries is this candidate
abbrev pub IsListed : List (Option Candidate) → Candidate → Type 0
IsListed entries c = (k : ℕ) × (slice_index_or entries k None ≡ Some c)

-- the tag at an index has an entry, whose rank is at most this one
pub record HasEntry (entries : List (Option Candidate)) (index : ℕ) (r : List ℕ) : Type 0 where
  pub c : Candidate
  pub k : ℕ
  pub listed : slice_index_or entries k None ≡ Some c
  pub here : c.index ≡ index
  pub most : IsAtMost (rank_of c) r

-- no entry is empty, and the rank of each is at most this one
abbrev pub AreAllBefore : List (Option Candidate) → List ℕ → Type 0
AreAllBefore entries r = (k : ℕ) → k < length entries → IsNotAfter (slice_index_or entries k None) r

-- a pair with this index and rank is not needed: its tag has an entry that is no worse, or all entries are no worse
abbrev pub IsCovered : List (Option Candidate) → ℕ → List ℕ → Type 0
IsCovered entries index r = HasEntry entries index r ⊎ AreAllBefore entries r

-- the entry at a place is a candidate whose tag has this index
abbrev pub IsOfTag : List (Option Candidate) → ℕ → ℕ → Type 0
IsOfTag entries place index = (c : Candidate) × (slice_index_or entries place None ≡ Some c) × (c.index ≡ index)

-- no tag has two entries
abbrev pub AreApart : List (Option Candidate) → Type 0
AreApart entries =
    (j k : ℕ) (c d : Candidate) → slice_index_or entries j None ≡ Some c → slice_index_or entries k None ≡ Some d → c.index ≡ d.index → j ≡ k

-- no entry is worse than the entry at this index; an empty entry is worse than a candidate
abbrev pub IsWorst : List (Option Candidate) → ℕ → Type 0
IsWorst entries worst = (k : ℕ) → k < length entries → Keeps (slice_index_or entries worst None) (slice_index_or entries k None)

-- no entry is better than the entry at this index
abbrev pub IsFirst : List (Option Candidate) → ℕ → Type 0
IsFirst entries first = (k : ℕ) → k < length entries → Keeps (slice_index_or entries k None) (slice_index_or entries first None)

abbrev pub ListTries : List Element → List (Option (List ℕ)) → (ℕ → ℕ → Bool) → List (Option Candidate) → List (Option Candidate) → Type 0
ListTries = TriesOf IsCovered IsListed AreApart

abbrev pub ListTriesRange : Element → ℕ → List (Option (List ℕ)) → (ℕ → Bool) → List (Option Candidate) → List (Option Candidate) → Type 0
ListTriesRange = TriesRangeOf IsCovered IsListed AreApart

-- the entries before and after a candidate was put among them
pub record Puts (candidate : Candidate) (old new : List (Option Candidate)) : Type 0 where
  pub keeps : (index : ℕ) (r : List ℕ) → IsCovered old index r → IsCovered new index r
  pub covers : (r : List ℕ) → IsAtMost (rank_of candidate) r → IsCovered new candidate.index r
  pub from : (c : Candidate) → IsListed new c → IsListed old c ⊎ (c ≡ candidate)
  pub apart : AreApart old → AreApart new

-- the best candidate was taken out
pub record TakesFirst (old : List (Option Candidate)) (first : Option Candidate) (new : List (Option Candidate)) : Type 0 where
  pub place : ℕ
  pub there : slice_index_or old place None ≡ first
  pub first_is : IsFirst old place
  pub gone : slice_index_or new place None ≡ None
  pub others : (k : ℕ) → (k ≡ place → ⊥) → slice_index_or new k None ≡ slice_index_or old k None

-- ---- which entries are tried

-- whether the entry at an index is a tag
abbrev pub is_tag_at : List (Option (List ℕ)) → ℕ → Bool
is_tag_at tags index = is_some (slice_index_or tags index None)

-- whether the entry at an index is a tag that is not refused
abbrev pub is_unrefused_at : List Element → List (Option (List ℕ)) → ℕ → Bool
is_unrefused_at elements tags index = option_map_or (λ tag. not (is_refused elements tag)) (slice_index_or tags index None) false

-- whether the flag of the entry at an index is set; the first flag is that of the entry at `start`
abbrev pub is_flagged : ℕ → List Bool → ℕ → Bool
is_flagged start flags index = nat_le start index && slice_index_or flags (index - start) false

-- ---- the pair with the least rank

-- the candidate is the pair with the least rank
pub record IsBestOf (elements : List Element) (tags : List (Option (List ℕ))) (c : Candidate) : Type 0 where
  pub pair : Pair elements tags
  pub place : pair.place ≡ c.rank.place
  pub index : pair.index ≡ c.index
  pub tag : pair.tag ≡ c.tag.now
  pub least : (other : Pair elements tags) → IsAtMost (rank_of_pair elements tags pair) (rank_of_pair elements tags other)

-- the candidate is the pair with the least rank, or `None` if there is no pair
abbrev pub IsBestFound : List Element → List (Option (List ℕ)) → Option Candidate → Type 0
IsBestFound elements tags found = MatchOption found (Pair elements tags → ⊥) (IsBestOf elements tags)

-- ---- a shortlist

-- the candidate is a tag that is not refused, for one of the ranges
pub record IsPairOf (elements : List Element) (tags : List (Option (List ℕ))) (c : Candidate) : Type 0 where
  pub tag : List ℕ
  pub there : slice_get tags c.index ≡ Some (Some tag)
  pub unrefused : is_refused elements tag ≡ false
  pub at : IsAt elements tag c

-- the entries are the best candidates: each pair has an entry that is no worse, or it is no better than `bar`, and each
-- entry is no worse than `bar`
pub record IsShortlist (elements : List Element) (tags : List (Option (List ℕ))) (bar : Option Candidate) (entries : List (Option Candidate)) : Type 0 where
  pub apart : AreApart entries
  pub pairs : (c : Candidate) → IsListed entries c → IsPairOf elements tags c
  pub below : (c : Candidate) → IsListed entries c → Keeps bar (Some c)
  pub covers : (pair : Pair elements tags) → HasEntry entries pair.index (rank_of_pair elements tags pair) ⊎ IsNotAfter bar (rank_of_pair elements tags pair)
