-- What loops over ranges and over tags have found, and that it is the choice.
use Rattle.langtag_scan.proofs.Prelude.{◌≡◌, ℕ, true, List, get_or, Option, Some, None, option_map, ap, refl, sym, subst, ◌∙◌, ◌-◌, ◌==◌, ◌≤◌, false, ◌&&◌, ◌||◌, nat_lt, arith, Bool, [], ◌∷◌, ◌+◌, ◌<◌, suc, length, min, common_steps, get_or-replicate, get_or_past, inl, inr, slice_get, replicate, or-true, eqb_tells, nat_tests, and_parts, eq-eqb, eqb-true, not-true, or_cases, cases_lt, get_or_from_slice_get, slice_get-get_or, slice_get_within, list_any, ForSome}
use Rattle.std.proofs.lemmas.Option.{slice_get_cases}
use Rattle.std.specs.Bool.{nat_le}
use Rattle.langtag_range.specs.Definitions.{Element, basic_text}
use Rattle.langtag_choice.specs.Nearness.{kept}
use Rattle.langtag_choice.specs.Serves.{serves, is_excluded, reach}
use Rattle.langtag_choice.specs.Serves.{IsAtMost}
use Rattle.langtag_choice.specs.Best.{IsChoice, IsMatchOf, Pair, rank_of_pair, is_refused, longest}
use Rattle.langtag_choice.specs.Distance.{distance_of_texts}
use Rattle.langtag_choice.specs.Near.{wish_element}
use Rattle.langtag_choice.specs.Candidates.{IsNotAfter, Takes, rank_of}
use Rattle.langtag_choice.specs.Found.{AddsNothing, IsBestFound, IsBestOf, IsFor, IsPairOf, Tries, TriesOf, TriesRange, TriesRangeOf, is_flagged, is_unrefused_at}
use Rattle.langtag_choice.specs.KnownTexts.{is_known, known_text}
use Rattle.langtag_choice.specs.declared.best_match.BestMatch.{BestMatch}
use Rattle.langtag_choice.specs.declared.candidate.Candidate.{Candidate}
use Rattle.langtag_choice.specs.declared.known_tag.KnownTag.{KnownTag}
use Rattle.langtag_choice.specs.declared.wish.Wish.{Wish}

-- ---- pairs that were tried

module _ {S : Type 0} (Covers : S → ℕ → List ℕ → Type 0) (Has : S → Candidate → Type 0) (IsApart : S → Type 0) where
  module _ (elements : List Element) (tags : List (Option (List ℕ))) where
    abbrev TriesHere : (ℕ → ℕ → Bool) → S → S → Type 0
    TriesHere = TriesOf Covers Has IsApart elements tags

    -- some pairs were tried, and then others
    pub tries_both :
        (first second both : ℕ → ℕ → Bool) (old middle new : S) → TriesHere first old middle → TriesHere second middle new →
        ((place index : ℕ) → place < length elements → index < length tags → both place index ≡ (first place index || second place index)) → TriesHere both old new
    tries_both first second both old middle new one other same = record {
      keeps = λ index r is. other.keeps index r (one.keeps index r is);
      covers = λ place element index tag tried wanted there served.
          grind (arith, slice_get_within, same place index, or_cases, other.keeps index, one.covers place, other.covers place);
      from = λ c is. grind (arith, other.from c is, one.from c, same c.rank.place c.index, or-true);
      apart = λ apart. other.apart (one.apart apart);
    }

    -- the same pairs
    pub tries_same :
        (some same : ℕ → ℕ → Bool) (old new : S) → TriesHere some old new →
        ((place index : ℕ) → place < length elements → index < length tags → same place index ≡ some place index) → TriesHere same old new
    tries_same some same old new tries is = record {
      keeps = tries.keeps;
      covers = λ place element index tag tried wanted there served.
          grind (arith, is place index, slice_get_within, tries.covers place element index tag);
      from = λ c found. grind (arith, tries.from c found, is c.rank.place c.index);
      apart = tries.apart;
    }

    -- one more range
    pub one_more_range :
        (entries : ℕ → Bool) (place : ℕ) (old middle new : S) → TriesHere (λ p index. entries index && nat_lt p place) old middle →
        TriesHere (λ p index. entries index && (p == place)) middle new → TriesHere (λ p index. entries index && nat_lt p (place + 1)) old new
    one_more_range entries place old middle new one other = tries_both _ _ _ old middle new one other (λ p index among inside. grind (arith, nat_tests))

    -- all ranges
    pub all_ranges :
        (entries : ℕ → Bool) (place : ℕ) (old new : S) → ((p : ℕ) → p < length elements → p < place) →
        TriesHere (λ p index. entries index && nat_lt p place) old new → TriesHere (λ p index. entries index) old new
    all_ranges entries place old new all tries = tries_same _ _ old new tries (λ p index among inside. let below = all p among in grind (arith, nat_tests))

  -- one more entry for a range
  pub one_more_entry :
      (tags : List (Option (List ℕ))) (wish : Wish) (element : Element) (place : ℕ) (first second both : ℕ → Bool) (old middle new : S) → wish_element wish ≡ element → wish.place ≡ place →
      TriesRangeOf Covers Has IsApart element place tags first old middle → TriesRangeOf Covers Has IsApart (wish_element wish) wish.place tags second middle new → ((index : ℕ) → both index ≡ (first index || second index)) →
      TriesRangeOf Covers Has IsApart element place tags both old new
  one_more_entry tags wish element place first second both old middle new same_element same_place one other same = λ elements wanted.
      let asked : slice_get elements wish.place ≡ Some (wish_element wish) = cc (same_element, same_place, wanted) in
      tries_both elements tags _ _ _ old middle new (one elements wanted) (other elements asked)
      (λ p index among inside. let is = same index in grind (arith, nat_tests))

-- ---- it is the choice

-- the entry at an index is a tag that is not refused
pub unrefused_tag :
    (elements : List Element) (tags : List (Option (List ℕ))) (index : ℕ) → index < length tags → is_unrefused_at elements tags index ≡ true →
    (tag : List ℕ) × (slice_get tags index ≡ Some (Some tag)) × (is_refused elements tag ≡ false)
unrefused_tag elements tags index inside is = grind (arith, nat_tests, slice_get-get_or tags index, not-true)

pub unrefused_entry :
    (elements : List Element) (tags : List (Option (List ℕ))) (index : ℕ) (tag : List ℕ) → get_or tags index None ≡ Some tag → is_refused elements tag ≡ false → is_unrefused_at elements tags index ≡ true
unrefused_entry elements tags index tag here free = rw (here, free) refl

-- the candidate is a tag that is not refused, among the tags that are left
pub pair_left :
    (elements : List Element) (tags left : List (Option (List ℕ))) (c : Candidate) → length left ≡ length tags →
    ((tag : List ℕ) → slice_get left c.index ≡ Some (Some tag) → slice_get tags c.index ≡ Some (Some tag)) →
    IsFor elements tags c → is_unrefused_at elements left c.index ≡ true → IsPairOf elements left c
pair_left elements tags left c long stays for free =
    let entry = unrefused_tag elements left c.index (rw long for.inside) free in
    record { tag = entry.0; there = entry.1; unrefused = entry.2; at = for.there entry.0 (stays entry.0 entry.1) }

-- the candidate is the pair with the least rank
pub best_of :
    (elements : List Element) (tags : List (Option (List ℕ))) (c : Candidate) → IsPairOf elements tags c →
    ((other : Pair elements tags) → IsAtMost (rank_of c) (rank_of_pair elements tags other)) → IsBestOf elements tags c
best_of elements tags c of least = record {
  pair = record {
    place = c.rank.place;
    element = of.at.element;
    wanted = of.at.wanted;
    index = c.index;
    tag = of.tag;
    there = of.there;
    served = of.at.served;
    unrefused = of.unrefused;
  };
  place = refl;
  index = refl;
  tag = sym of.at.tag;
  least = rw of.at.same_rank at least;
}

module _ (elements : List Element) (tags : List (Option (List ℕ))) where
  -- the candidate is the choice if it is found among all pairs whose tags are not refused, and its tag is not refused
  pub best_found :
      (is_tried : ℕ → ℕ → Bool) (found : Option Candidate) → Tries elements tags is_tried None found → ((place index : ℕ) → is_unrefused_at elements tags index ≡ true → is_tried place index ≡ true) →
      ForSome found (λ c. is_tried c.rank.place c.index ≡ true → is_unrefused_at elements tags c.index ≡ true) → IsBestFound elements tags found
  best_found is_tried found tries all free = by_found found refl
    where
      covers : (pair : Pair elements tags) → IsNotAfter found (rank_of_pair elements tags pair)
      covers pair =
          tries.covers pair.place pair.element pair.index pair.tag
          (all pair.place pair.index (unrefused_entry elements tags pair.index pair.tag (get_or_from_slice_get tags pair.index (Some pair.tag) None pair.there) pair.unrefused)) pair.wanted pair.there pair.served

      by_found : (o : Option Candidate) → found ≡ o → IsBestFound elements tags o
      by_found None is = λ pair. subst (λ o. IsNotAfter o (rank_of_pair elements tags pair)) is (covers pair)
      by_found (Some c) is = elim (tries.from c is) [
        | inl none ↦ absurd cc
        | inr for ↦
            best_of elements tags c (pair_left elements tags tags c refl (λ tag there. there) for.1 (free c is for.0))
            (λ other. rw is at (covers other))
      ]

  -- what was found has the index of the choice
  pub found_chosen : (found : Option Candidate) → IsBestFound elements tags found → IsChoice elements tags (option_map (λ c. c.index) found)
  found_chosen None none = none
  found_chosen (Some c) best = record { pair = best.pair; here = best.index; least = best.least }

  -- what is said of what was found is a match
  pub match_found :
      (o : Option Candidate) (c : Candidate) (m : BestMatch) (range : List ℕ) → o ≡ Some c → IsBestFound elements tags o → m.index ≡ c.index → m.place ≡ c.rank.place → m.range.now ≡ range →
      ((element : Element) → slice_get elements c.rank.place ≡ Some element → basic_text range ≡ element.range) → m.distance ≡ distance_of_texts (basic_text range) c.tag.now → IsMatchOf elements tags m
  match_found o c m range is found index place written read distance =
      let best : IsBestOf elements tags c = subst (IsBestFound elements tags) is found in
      let same = read best.pair.element (subst (λ k. slice_get elements k ≡ Some best.pair.element) best.place best.pair.wanted) in
      record {
        pair = best.pair;
        index = index ∙ sym best.index;
        place = place ∙ sym best.place;
        range = ap basic_text written ∙ same;
        distance = distance ∙ ap (λ r. distance_of_texts r c.tag.now) same ∙ ap (distance_of_texts best.pair.element.range) (sym best.tag);
        least = best.least;
      }

-- ---- where no range has the weight 0, no tag is refused

longest_none : (of_kind : Element → Bool) (elements : List Element) (tag : List ℕ) → list_any of_kind elements ≡ false → longest of_kind elements tag ≡ 0
longest_none of_kind [] tag none = refl
longest_none of_kind (element ∷ elements) tag none = grind (arith, nat_tests, longest_none of_kind elements tag)

pub none_refused : (elements : List Element) (tag : List ℕ) → list_any is_excluded elements ≡ false → is_refused elements tag ≡ false
unfolding is_refused
none_refused elements tag none = let zero = longest_none is_excluded elements tag none in rw zero (grind (arith, nat_tests))

-- ---- one entry

-- a tag of a list is what is read at its index, and what was kept of it is true
abbrev pub IsKnownAt : List (Option (List ℕ)) → ℕ → KnownTag → Type 0
IsKnownAt tags index known = ForSome (get_or tags index None) (λ text. (known_text known ≡ text) × (is_known known ≡ true))

-- what is tried at an index is the entry there
pub takes_at :
    (tags : List (Option (List ℕ))) (wish : Wish) (known : KnownTag) (index : ℕ) (old new : Option Candidate) → index < length tags → IsKnownAt tags index known →
    Takes wish known index old new → TriesRange (wish_element wish) wish.place tags (λ there. there == index) old new
takes_at tags wish known index old new inside at takes elements wanted = record {
  keeps = λ there r. takes.keeps r;
  covers = λ place element there tag tried asked found served.
      let parts = and_parts (there == index) (place == wish.place) tried in
      let same_index = eqb-true there index parts.0 in
      let same_place = eqb-true place wish.place parts.1 in
      let here = at tag (get_or_from_slice_get tags index (Some tag) None (cc)) in
      grind (arith, takes.covers here.1);
  from = λ c is. elim (takes.from c is) [
    | inl was ↦ inl was
    | inr of ↦
        inr (
          rw (eq-eqb c.rank.place wish.place of.0, eq-eqb c.index index of.1) refl,
          record {
            among = subst (λ p. p < length elements) (sym of.0) (slice_get_within elements wish.place (wish_element wish) wanted);
            inside = subst (λ i. i < length tags) (sym of.1) inside;
            there = λ tag found.
                let here = at tag (get_or_from_slice_get tags index (Some tag) None (ap (slice_get tags) (sym of.1) ∙ found)) in
                let it = of.2 here.1 in
                record { element = wish_element wish; wanted = ap (slice_get elements) of.0 ∙ wanted; range = it.range; tag = it.tag ∙ here.0; served = ap (serves (wish_element wish)) (sym here.0) ∙ it.served; same_rank = cc };
          },
        )
  ];
  apart = λ apart. apart;
}

-- a tag that is far adds nothing
far_serves : (wish : Wish) (text : List ℕ) → 50 ≤ distance_of_texts (basic_text wish.range.now) text → kept (basic_text wish.range.now) text ≡ 0 → serves (wish_element wish) text ≡ false
unfolding serves reach
far_serves wish text far none = grind (arith, nat_tests)

pub far_at :
    (tags : List (Option (List ℕ))) (wish : Wish) (index : ℕ) → ForSome (get_or tags index None) (λ text. 50 ≤ distance_of_texts (basic_text wish.range.now) text) →
    ForSome (get_or tags index None) (λ text. kept (basic_text wish.range.now) text ≡ 0) → AddsNothing wish tags (λ there. there == index)
far_at tags wish index far none found elements wanted = record {
  keeps = λ there r is. is;
  covers = λ place element there tag tried asked at served.
      grind (arith, and_parts, eqb-true, far tag, none tag, get_or_from_slice_get, far_serves wish tag);
  from = λ c is. inl is;
  apart = λ apart. apart;
}

-- one more entry that adds nothing
pub far_next :
    (tags : List (Option (List ℕ))) (wish : Wish) (from index : ℕ) → from ≤ index → AddsNothing wish tags (λ there. nat_le from there && nat_lt there index) → AddsNothing wish tags (λ there. there == index) →
    AddsNothing wish tags (λ there. nat_le from there && nat_lt there (index + 1))
far_next tags wish from index after before here found =
    one_more_entry _ _ _ tags wish (wish_element wish) wish.place (λ there. nat_le from there && nat_lt there index) (λ there. there == index) _ found found found refl refl (before found) (here found)
    (λ there. grind (arith, nat_tests, eqb_tells))

-- ---- flags

-- at first no flag is set
pub none_flagged : (n k : ℕ) (is : Bool) → get_or (replicate n false) k false ≡ (nat_lt k 0 && is)
none_flagged n k is = grind (arith, common_steps, nat_tests, cases_lt k n, get_or-replicate {A = Bool}, get_or_past)

-- the flag of the next entry
pub flag_next :
    (start : ℕ) (flags : List Bool) (offset index : ℕ) →
    (is_flagged start flags index && nat_lt index (start + (offset + 1))) ≡ ((is_flagged start flags index && nat_lt index (start + offset)) || (get_or flags offset false && (index == (start + offset))))
flag_next start flags offset index = grind (arith, eqb_tells, nat_tests)

-- the entries before some, and these
pub block_flags :
    (elements : List Element) (tags : List (Option (List ℕ))) (start count : ℕ) (flags : List Bool) (index : ℕ) → ((k : ℕ) → get_or flags k false ≡ (nat_lt k 64 && is_unrefused_at elements tags (start + k))) →
    count ≡ min 64 (length tags - start) → index < length tags →
    (is_unrefused_at elements tags index && nat_lt index (start + count)) ≡ ((is_unrefused_at elements tags index && nat_lt index start) || is_flagged start flags index)
block_flags elements tags start count flags index are few inside = grind (arith, cases_lt, nat_tests)

-- ---- what a walk has left

-- some elements are what is left of all from a place on
abbrev pub IsRest : List Element → List Element → ℕ → Type 0
IsRest all left place = (k : ℕ) → slice_get left k ≡ slice_get all (place + k)

pub rest_here : (all left rest : List Element) (element : Element) (place : ℕ) → left ≡ element ∷ rest → IsRest all left place → slice_get all place ≡ Some element
rest_here all left rest element place is so_far = grind (arith, so_far 0)

pub rest_next : (all left rest : List Element) (element : Element) (place : ℕ) → left ≡ element ∷ rest → IsRest all left place → IsRest all rest (place + 1)
rest_next all left rest element place is so_far = λ k. grind (arith, so_far (suc k))

pub rest_done : (all left : List Element) (place : ℕ) → left ≡ [] → IsRest all left place → (p : ℕ) → p < length all → p < place
rest_done all left place is so_far p among = grind (arith, so_far (p - place), cases_lt p place, slice_get_cases all p)
