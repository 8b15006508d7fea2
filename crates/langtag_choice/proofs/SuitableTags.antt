-- The tags of a site by their indices.
-- The tags that are chosen in turn.
use Rattle.langtag_scan.proofs.Prelude.{◌≡◌, slice_get-get_or, get_or-set_other, get_or-set_at, ℕ, ◌<◌, List, length, get_or, None, Some, sym, ap, ◌∙◌, option_map, ◌≢◌, ◌⊎◌, inl, inr, ◌≤◌, ◌+◌, ◌-◌, ◌==◌, [], ◌∷◌, ◌++◌, Option, is_some, cond, count_by, slice_get, set, drop, refl, arith, All, get_or-map, length-map, append_assoc, append-nil, drop-drop, drop-set-lt, length-append, length-set, eqb_tells, All-cons, All-nil, count_by-le-length, slice_get_within, get_or_from_slice_get, list_any, common_steps, nat_tests, cases_lt, take, length-take, get_or_past, true, false, ◌&&◌, and_parts}
use Rattle.std.proofs.Common.{Contains}
use Rattle.langtag.specs.Text.{lang_tag_text}
use Rattle.langtag_choice.specs.ListTexts.{tag_texts}
use Rattle.langtag_choice.specs.Sites.{prepared_tags}
use Rattle.langtag_choice.specs.declared.prepared_tag.PreparedTag.{PreparedTag}
use Rattle.std.proofs.lemmas.List.Elements.{Contains-append_right}
use Rattle.std.proofs.lemmas.List.Kept.{AllPairs-cons}
use Rattle.std.proofs.lemmas.List.Sums.{sum_by-set}
use Rattle.std.proofs.lemmas.Option.{slice_get_past, unwrap_or-slice_get}
use Rattle.langtag_range.specs.Element.{Element}
use Rattle.langtag_choice.specs.Best.{IsChoice}
use Rattle.langtag_choice.specs.Found.{is_tag_at, is_unrefused_at}
use Rattle.langtag_choice.specs.Serves.{is_excluded}
use Rattle.langtag_choice.proofs.FoundLaws.{none_refused}
use Rattle.langtag_choice.specs.Remaining.{GoesOn, without_all}
use Rattle.langtag_choice.specs.Suitable.{AreDistinct, AreSuitable, BeginsWithChoice, IsServing, LeavesNoneOut, without}

pub tag_at :
    (prepared : List PreparedTag) (index : ℕ) (found : PreparedTag) → index < length prepared → found ≡ get_or prepared index found →
    get_or (tag_texts (prepared_tags prepared)) index None ≡ Some (lang_tag_text found.tag)
tag_at prepared index found inside is =
    get_or-map (λ tag. Some (lang_tag_text tag)) (prepared_tags prepared) index found.tag None (rw length-map inside)
    ∙ ap (λ tag. Some (lang_tag_text tag)) (get_or-map (λ p. p.tag) prepared index found found.tag inside ∙ ap (λ p. p.tag) (sym is))

pub tag_count : (prepared : List PreparedTag) → length (tag_texts (prepared_tags prepared)) ≡ length prepared
tag_count prepared = simp length-map

-- ---- the tags that remain

pub without_count : (tags : List (Option (List ℕ))) (chosen : List ℕ) → length (without_all tags chosen) ≡ length tags
without_count tags [] = refl
without_count tags (index ∷ chosen) = without_count (without tags index) chosen ∙ length-set tags index None

-- the entry at an index, once another is taken away
gone : (tags : List (Option (List ℕ))) (index other : ℕ) → slice_get (without tags index) other ≡ option_map (λ entry. cond (index == other) None entry) (slice_get tags other)
gone tags index other =
    let old = slice_get-get_or tags other None in
    let new = slice_get-get_or (without tags index) other None in
    grind (arith, old, new, slice_get_past, cases_lt other (length tags), eqb_tells, length-set, get_or-set_other, get_or-set_at)

-- an entry that was chosen is no tag, and the others stay
pub entry_left :
    (tags : List (Option (List ℕ))) (chosen : List ℕ) (index : ℕ) →
    get_or (without_all tags chosen) index None ≡ cond (list_any (λ other. other == index) chosen) None (get_or tags index None)
entry_left tags [] index = refl
entry_left tags (first ∷ chosen) index = grind (arith, common_steps, gone, unwrap_or-slice_get, entry_left (without tags first) chosen index)

pub without_one_more : (tags : List (Option (List ℕ))) (chosen : List ℕ) (index : ℕ) → without_all tags (chosen ++ index ∷ []) ≡ without (without_all tags chosen) index
without_one_more tags [] index = refl
without_one_more tags (first ∷ chosen) index = without_one_more (without tags first) chosen index

-- a tag that is left is one of the entries
pub tag_within : (tags : List (Option (List ℕ))) (chosen : List ℕ) (index : ℕ) → is_tag_at (without_all tags chosen) index ≡ true → index < length tags
tag_within tags chosen index tag =
    grind (arith, common_steps, cases_lt index (length tags), entry_left tags chosen index, get_or_past)

-- a tag that is left is a tag of the list
pub tag_there : (tags : List (Option (List ℕ))) (chosen : List ℕ) (index : ℕ) → is_tag_at (without_all tags chosen) index ≡ true → is_tag_at tags index ≡ true
tag_there tags chosen index tag = grind (arith, common_steps, nat_tests, entry_left tags chosen index)

-- a tag that is left is refused if it is refused among all
pub tag_unrefused :
    (elements : List Element) (tags : List (Option (List ℕ))) (chosen : List ℕ) (index : ℕ) →
    (is_tag_at (without_all tags chosen) index && is_unrefused_at elements tags index) ≡ is_unrefused_at elements (without_all tags chosen) index
tag_unrefused elements tags chosen index = grind (arith, common_steps, nat_tests, entry_left tags chosen index)

-- no tag that is left is refused if no range has the weight 0
pub none_left_refused :
    (elements : List Element) (tags : List (Option (List ℕ))) (chosen : List ℕ) (index : ℕ) → list_any is_excluded elements ≡ false →
    is_tag_at (without_all tags chosen) index ≡ is_unrefused_at elements (without_all tags chosen) index
none_left_refused elements tags chosen index none = grind (arith, common_steps, nat_tests, none_refused elements)

-- an entry that is left and not refused is one of the entries
pub free_within :
    (elements : List Element) (tags : List (Option (List ℕ))) (chosen : List ℕ) (index : ℕ) → is_unrefused_at elements (without_all tags chosen) index ≡ true → index < length tags
free_within elements tags chosen index free =
    tag_within tags chosen index (and_parts (is_tag_at (without_all tags chosen) index) (is_unrefused_at elements tags index) (tag_unrefused elements tags chosen index ∙ free)).0

-- ---- choosing in turn

module _ (elements : List Element) (tags : List (Option (List ℕ))) (room : ℕ) where
  pub one_more : (chosen : List ℕ) (index : ℕ) → length chosen < room → IsChoice elements (without_all tags chosen) (Some index) → GoesOn elements tags room chosen → GoesOn elements tags room (chosen ++ index ∷ [])
  one_more chosen index below choice goes more suitable =
      let number : room - length (chosen ++ index ∷ []) ≡ room - length chosen - 1 = omega (arith, length-append chosen (index ∷ [])) in
      rw append_assoc
      (goes (index ∷ more) (omega (arith, below), choice, rw (number, without_one_more tags chosen index) at suitable))

-- the indices are all: no other tag is suitable, or there is no room left
pub all_chosen :
    (elements : List Element) (tags : List (Option (List ℕ))) (room count : ℕ) (found : List ℕ) → length found ≡ room → count ≤ room → (count < room → IsChoice elements (without_all tags (take count found)) None) →
    GoesOn elements tags room (take count found) → AreSuitable elements tags room (take count found)
all_chosen elements tags room count found long within last goes =
    rw append-nil at (goes [] (λ some. last (omega (arith, length-take count found, some))))

-- the rest of an array is unchanged from a later place on
pub rest_later : (new old : List ℕ) (count later : ℕ) → drop count new ≡ drop count old → count ≤ later → drop later new ≡ drop later old
rest_later new old count later same after = grind (arith, nat_tests, drop-drop (later - count) count new, drop-drop (later - count) count old)

-- the rest of an array, after one more entry was written
pub rest_after : (new old : List ℕ) (count index : ℕ) → drop count new ≡ drop count old → drop (count + 1) (set new count index) ≡ drop (count + 1) old
rest_after new old count index same = grind (arith, nat_tests, drop-set-lt (count + 1) new count index, drop-drop 1 count new, drop-drop 1 count old)

-- ---- one tag fewer

-- a tag that remains is another tag
pub stays : (tags : List (Option (List ℕ))) (index other : ℕ) (tag : List ℕ) → slice_get (without tags index) other ≡ Some (Some tag) → (index ≢ other) × (slice_get tags other ≡ Some (Some tag))
stays tags index other tag there = grind (arith, gone tags index other, eqb_tells index other)

-- another tag remains
pub remains : (tags : List (Option (List ℕ))) (index other : ℕ) (tag : List ℕ) → other ≢ index → slice_get tags other ≡ Some (Some tag) → slice_get (without tags index) other ≡ Some (Some tag)
remains tags index other tag differs there = grind (arith, gone tags index other, eqb_tells index other)

-- a tag that is left is one of the tags
pub stays_all : (tags : List (Option (List ℕ))) (chosen : List ℕ) (index : ℕ) (tag : List ℕ) → slice_get (without_all tags chosen) index ≡ Some (Some tag) → slice_get tags index ≡ Some (Some tag)
stays_all tags [] index tag there = there
stays_all tags (first ∷ chosen) index tag there = (stays tags first index tag (stays_all (without tags first) chosen index tag there)).1

-- ---- what follows

module _ (elements : List Element) where
  pub begins_with_choice : (tags : List (Option (List ℕ))) (room : ℕ) (indices : List ℕ) → AreSuitable elements tags room indices → BeginsWithChoice elements tags room indices
  begins_with_choice tags room [] suitable = suitable
  begins_with_choice tags room (index ∷ indices) suitable = λ some. suitable.1

  serving_before : (tags : List (Option (List ℕ))) (index other : ℕ) → IsServing elements (without tags index) other → (index ≢ other) × IsServing elements tags other
  serving_before tags index other (pair, here) =
      let kept = stays tags index pair.index pair.tag pair.there in
      (λ same. kept.0 (same ∙ sym here), (record { place = pair.place; element = pair.element; wanted = pair.wanted; index = pair.index; tag = pair.tag; there = kept.1; served = pair.served; unrefused = pair.unrefused }, here))

  serving_after : (tags : List (Option (List ℕ))) (index other : ℕ) → other ≢ index → IsServing elements tags other → IsServing elements (without tags index) other
  serving_after tags index other differs (pair, here) =
      (record { place = pair.place; element = pair.element; wanted = pair.wanted; index = pair.index; tag = pair.tag; there = remains tags index pair.index pair.tag (λ same. differs (sym here ∙ same)) pair.there; served = pair.served; unrefused = pair.unrefused }, here)

  pub all_serving : (tags : List (Option (List ℕ))) (room : ℕ) (indices : List ℕ) → AreSuitable elements tags room indices → All (IsServing elements tags) indices
  all_serving tags room [] suitable = All-nil (IsServing elements tags)
  all_serving tags room (index ∷ indices) suitable =
      All-cons (IsServing elements tags) index indices (suitable.1.pair, suitable.1.here)
      (λ k d inside. (serving_before tags index (get_or indices k d) (all_serving (without tags index) (room - 1) indices suitable.2 k d inside)).1)

  pub all_distinct : (tags : List (Option (List ℕ))) (room : ℕ) (indices : List ℕ) → AreSuitable elements tags room indices → AreDistinct indices
  all_distinct tags room [] suitable = λ i j d before inside. absurd (omega (arith, before, inside))
  all_distinct tags room (index ∷ indices) suitable =
      AllPairs-cons (λ first later. first ≢ later) index indices
      (λ k d inside. (serving_before tags index (get_or indices k d) (all_serving (without tags index) (room - 1) indices suitable.2 k d inside)).0)
      (all_distinct (without tags index) (room - 1) indices suitable.2)

-- ---- none is left out

abbrev one_if_tag : Option (List ℕ) → ℕ
one_if_tag entry = cond (is_some entry) 1 0

-- the number of entries that are tags
abbrev number_of_tags : List (Option (List ℕ)) → ℕ
number_of_tags tags = count_by is_some tags

-- without a tag they are one fewer
one_fewer : (tags : List (Option (List ℕ))) (index : ℕ) (tag : List ℕ) → slice_get tags index ≡ Some (Some tag) → number_of_tags (without tags index) + 1 ≡ number_of_tags tags
one_fewer tags index tag there =
    grind (arith, sum_by-set one_if_tag tags index None None, slice_get_within, get_or_from_slice_get)

module _ (elements : List Element) where
  none_left : (tags : List (Option (List ℕ))) (room : ℕ) (indices : List ℕ) → AreSuitable elements tags room indices → (length indices < room) ⊎ (number_of_tags tags ≤ room) →
      (index : ℕ) → IsServing elements tags index → Contains indices index
  none_left tags room [] suitable (inl short) index serving = absurd (suitable short serving.0)
  none_left tags room [] suitable (inr enough) index serving =
      absurd (suitable (omega (arith, enough, one_fewer tags serving.0.index serving.0.tag serving.0.there)) serving.0)
  none_left tags room (first ∷ indices) suitable enough index serving = elim (eqb_tells index first) [
    | inl same ↦ (0, omega arith, sym same.1)
    | inr other ↦ Contains-append_right (first ∷ []) indices index
        (none_left (without tags first) (room - 1) indices suitable.2
        (grind (arith, enough, one_fewer tags suitable.1.pair.index suitable.1.pair.tag suitable.1.pair.there)) index
        (serving_after elements tags first index other.1 serving))
  ]

  pub none_left_out : (tags : List (Option (List ℕ))) (room : ℕ) (indices : List ℕ) → AreSuitable elements tags room indices → LeavesNoneOut elements tags room indices
  none_left_out tags room indices suitable enough =
      none_left tags room indices suitable (grind (arith, enough, count_by-le-length is_some tags))
