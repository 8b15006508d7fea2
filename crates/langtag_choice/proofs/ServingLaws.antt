-- Which tags are suitable, and how many.
use Rattle.langtag_scan.proofs.Prelude.{◌≡◌, ◌==◌, ◌&&◌, ◌+◌, ◌-◌, ◌<◌, ◌≤◌, ◌⊎◌, ℕ, List, [], ◌∷◌, Option, None, Some, Bool, true, false, is_some, slice_get, get_or, length, take, cond, count_by-le-length, refl, arith, inl, inr, sym, ap, ◌∙◌, nat_tests, get_or_from_slice_get, slice_get_within, slice_get-get_or, list_any, list_any_at, option_map_or, not, eqb-true, and_parts, Any-from_list_any, false_from_ne_true, take-length, zero, suc}
use Rattle.std.proofs.lemmas.List.Sums.{count_by_more_no, count_by_more_yes, sum_by-set}
use Rattle.langtag_range.specs.Element.{Element}
use Rattle.langtag_choice.specs.Best.{IsChoice, Pair, is_refused}
use Rattle.langtag_choice.specs.Found.{IsAt, TriesRange}
use Rattle.langtag_choice.specs.Near.{wish_element}
use Rattle.langtag_choice.specs.Remaining.{without_all}
use Rattle.langtag_choice.specs.Serves.{serves}
use Rattle.langtag_choice.specs.Suitable.{AreSuitable, is_suitable, suitable_count, without}
use Rattle.langtag_choice.specs.declared.candidate.Candidate.{Candidate}
use Rattle.langtag_choice.specs.declared.wish.Wish.{Wish}

-- the tag at an index may serve a range if and only if it is found for this range alone
pub serves_if_found :
    (wish : Wish) (tags : List (Option (List ℕ))) (index : ℕ) (found : Option Candidate) → wish.place ≡ 0 → index < length tags →
    TriesRange (wish_element wish) wish.place tags (λ there. there == index) None found →
    (tag : List ℕ) → get_or tags index None ≡ Some tag → is_some found ≡ serves (wish_element wish) tag
serves_if_found wish tags index found first inside tries tag here = by_found found tries
  where
    there : slice_get tags index ≡ Some (Some tag)
    there = slice_get-get_or tags index None inside ∙ ap Some here

    alone : slice_get (wish_element wish ∷ []) wish.place ≡ Some (wish_element wish)
    alone = ap (slice_get (wish_element wish ∷ [])) first

    by_found : (o : Option Candidate) → TriesRange (wish_element wish) wish.place tags (λ there. there == index) None o → is_some o ≡ serves (wish_element wish) tag
    by_found None tries =
        let covers = (tries (wish_element wish ∷ []) alone).covers wish.place (wish_element wish) index tag in
        grind (arith, nat_tests, covers, there, alone)
    by_found (Some c) tries = elim ((tries (wish_element wish ∷ []) alone).from c refl) [
      | inl none ↦ absurd cc
      | inr for ↦
          let parts = and_parts (c.index == index) (c.rank.place == wish.place) for.0 in
          let at : IsAt (wish_element wish ∷ []) tag c = for.1.there tag (ap (slice_get tags) (eqb-true c.index index parts.0) ∙ there) in
          let same : slice_get (wish_element wish ∷ []) c.rank.place ≡ Some (wish_element wish) = ap (slice_get (wish_element wish ∷ [])) (eqb-true c.rank.place wish.place parts.1) ∙ alone in
          grind (arith, at.wanted, at.served, same)
    ]

-- a flag that is set for the free tags that may serve a range is that of the suitable tags
pub suitable_at :
    (elements : List Element) (entry : Option (List ℕ)) (flag free few : Bool) → free ≡ (few && option_map_or (λ tag. not (is_refused elements tag)) entry false) → (free ≡ false → flag ≡ false) →
    ((tag : List ℕ) → entry ≡ Some tag → free ≡ true → flag ≡ list_any (λ element. serves element tag) elements) → flag ≡ (few && is_suitable elements entry)
suitable_at elements None flag free few is unset set = grind (arith, nat_tests, is, unset)
suitable_at elements (Some tag) flag free few is unset set = let own = set tag refl in grind (arith, nat_tests, is, unset, own)

-- ---- how many

-- one more entry is counted if it is a suitable tag
pub one_counted :
    (elements : List Element) (tags : List (Option (List ℕ))) (index : ℕ) → index < length tags →
    suitable_count elements (take (index + 1) tags) ≡ suitable_count elements (take index tags) + cond (is_suitable elements (get_or tags index None)) 1 0
one_counted elements tags index inside =
    grind (arith, nat_tests, count_by_more_no (is_suitable elements) tags index None, count_by_more_yes (is_suitable elements) tags index None)

pub pair_suitable : (elements : List Element) (tags : List (Option (List ℕ))) (pair : Pair elements tags) → is_suitable elements (get_or tags pair.index None) ≡ true
pair_suitable elements tags pair =
    let here = get_or_from_slice_get tags pair.index (Some pair.tag) None pair.there in
    let any = list_any_at (λ element. serves element pair.tag) elements pair.place pair.element (slice_get_within elements pair.place pair.element pair.wanted)
    (ap (λ element. serves element pair.tag) (get_or_from_slice_get elements pair.place pair.element pair.element pair.wanted) ∙ pair.served) in
    rw (here, any, pair.unrefused) refl

-- a suitable tag belongs to a pair
suitable_pair : (elements : List Element) (tags : List (Option (List ℕ))) (index : ℕ) → index < length tags → is_suitable elements (get_or tags index None) ≡ true → Pair elements tags
suitable_pair elements tags index inside is = by_entry (get_or tags index None) refl is
  where
    by_entry : (entry : Option (List ℕ)) → get_or tags index None ≡ entry → is_suitable elements entry ≡ true → Pair elements tags
    by_entry None here is = absurd cc
    by_entry (Some tag) here is =
        let parts = and_parts (list_any (λ element. serves element tag) elements) (not (is_refused elements tag)) is in
        let (place, element, among, wanted, served) = Any-from_list_any (λ element. serves element tag) elements parts.0 in
        record {
          place = place;
          element = element;
          wanted = slice_get-get_or elements place element among ∙ ap Some wanted;
          index = index;
          tag = tag;
          there = slice_get-get_or tags index None inside ∙ ap Some here;
          served = served;
          unrefused = grind (arith, nat_tests, parts.1);
        }

none_counted : (elements : List Element) (tags : List (Option (List ℕ))) → (Pair elements tags → ⊥) → suitable_count elements tags ≡ 0
none_counted elements tags none = ap (suitable_count elements) (sym (take-length tags)) ∙ so_far (length tags) (omega arith)
  where
    so_far : (n : ℕ) → n ≤ length tags → suitable_count elements (take n tags) ≡ 0
    so_far zero inside = refl
    so_far (suc n) inside =
        let other = false_from_ne_true (is_suitable elements (get_or tags n None)) (λ is. none (suitable_pair elements tags n (omega (arith, inside)) is)) in
        let before = so_far n (omega (arith, inside)) in
        grind (arith, other, before, one_counted elements tags n)

-- ---- the number of the tags that were chosen in turn

-- without a suitable tag they are one fewer
one_fewer : (elements : List Element) (tags : List (Option (List ℕ))) (pair : Pair elements tags) → suitable_count elements (without tags pair.index) + 1 ≡ suitable_count elements tags
one_fewer elements tags pair =
    let suitable = pair_suitable elements tags pair in
    grind (arith, suitable, sum_by-set (λ entry. cond (is_suitable elements entry) 1 0) tags pair.index None None, slice_get_within tags pair.index (Some pair.tag) pair.there)

pub rest_counted :
    (elements : List Element) (tags : List (Option (List ℕ))) (room : ℕ) (indices : List ℕ) → AreSuitable elements tags room indices →
    length indices + suitable_count elements (without_all tags indices) ≡ suitable_count elements tags
rest_counted elements tags room [] suitable = omega arith
rest_counted elements tags room (index ∷ indices) suitable =
    let rest = rest_counted elements (without tags index) (room - 1) indices suitable.2 in
    let fewer = one_fewer elements tags suitable.1.pair in
    grind (arith, rest, fewer, suitable.1.here)

last_choice : (elements : List Element) (tags : List (Option (List ℕ))) (room : ℕ) (indices : List ℕ) → AreSuitable elements tags room indices → length indices < room → IsChoice elements (without_all tags indices) None
last_choice elements tags room [] suitable short = suitable short
last_choice elements tags room (index ∷ indices) suitable short = last_choice elements (without tags index) (room - 1) indices suitable.2 (omega (arith, short))

-- if there is room for more, or for all tags, the indices are those of all suitable tags
pub all_counted :
    (elements : List Element) (tags : List (Option (List ℕ))) (room : ℕ) (indices : List ℕ) → AreSuitable elements tags room indices → (length indices < room) ⊎ (length tags ≤ length indices) →
    length indices ≡ suitable_count elements tags
all_counted elements tags room indices suitable (inl short) =
    let none = none_counted elements (without_all tags indices) (last_choice elements tags room indices suitable short) in
    omega (arith, none, rest_counted elements tags room indices suitable)
all_counted elements tags room indices suitable (inr all) =
    omega (arith, all, rest_counted elements tags room indices suitable, count_by-le-length (is_suitable elements) tags)
