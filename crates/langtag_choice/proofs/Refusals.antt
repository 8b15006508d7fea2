-- What is known of refusals while the ranges are read.
use Rattle.langtag_scan.proofs.Prelude.{◌≡◌, ℕ, true, Bool, List, ◌∷◌, Option, Some, None, get_or, replicate, subst, arith, not, slice_get, common_steps, get_or-replicate, length-replicate, slice_get-get_or, cases_lt, get_or_past, length}
use Rattle.langtag_range.specs.Definitions.{Element}
use Rattle.langtag_choice.specs.Best.{is_refused}
use Rattle.langtag_choice.specs.Found.{is_tag_at, is_unrefused_at}
use Rattle.langtag_choice.specs.Refusals.{AreLongestBefore, IsLongestBefore, nothing_read}
use Rattle.langtag_choice.specs.declared.refused.Longest.{Longest}

none_read : (elements : List Element) (tag : List ℕ) → IsLongestBefore elements elements tag nothing_read
none_read elements tag = record { wishes = grind arith; zeros = grind arith }

-- before any range is read
pub all_none : (n k : ℕ) (own : Longest) (elements : List Element) (tag : List ℕ) → IsLongestBefore elements elements tag own → IsLongestBefore elements elements tag (get_or (replicate n own) k nothing_read)
all_none n k own elements tag is =
    let none = none_read elements tag in
    grind (arith, cases_lt k n, get_or-replicate n k own nothing_read, get_or_past, length-replicate {A = Longest}, none)

-- the next range
pub next_read :
    (elements left others : List Element) (element : Element) (tags : List (Option (List ℕ))) (start : ℕ) (flags : List Bool) (found : List Longest) → left ≡ element ∷ others →
    AreLongestBefore elements left tags start flags found → AreLongestBefore elements (element ∷ others) tags start flags found
next_read elements left others element tags start flags found is = subst (λ all. AreLongestBefore elements all tags start flags found) is

-- the flag of a tag is set, unless the tag is refused
pub refused_at :
    (elements : List Element) (tags : List (Option (List ℕ))) (index : ℕ) (result : Bool) → is_tag_at tags index ≡ true →
    ((tag : List ℕ) → get_or tags index None ≡ Some tag → result ≡ is_refused elements tag) → is_unrefused_at elements tags index ≡ not result
refused_at elements tags index result tag is = grind (arith, common_steps, is)

-- an entry that is read as a tag stands in the list
pub entry_there : (tags : List (Option (List ℕ))) (index : ℕ) (tag : List ℕ) → get_or tags index None ≡ Some tag → slice_get tags index ≡ Some (Some tag)
entry_there tags index tag here = grind (arith, cases_lt index (length tags), slice_get-get_or tags index, get_or_past)
