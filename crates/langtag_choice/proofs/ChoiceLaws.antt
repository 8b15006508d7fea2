-- The choice is the only one, answers lookup, is the tag that is equal, and does not change with the case of letters.
use Rattle.langtag_scan.proofs.Prelude.{◌≡◌, ℕ, true, List, get_or, Option, Some, None, option_map, ap, refl, sym, subst, ◌∙◌, ◌-◌, ◌==◌, ◌≤◌, false, nat_lt, arith, inl, inr, ◌<◌, cond, not, [], ◌∷◌, ◌++◌, length, map, filter, All, eq-eqb, IsTrue, length-take, Bool, slice_get, take-append_seam, drop-append_seam, take-length, eqb_tells, nat_tests, and_parts, ltb-false, nat_list_cmp_total, common_steps, All-cons, All-nil, length-map, take-map, drop-map, slice_get-map, bytes_decides}
use Rattle.langtag_scan.specs.Grammar.{Alike, fold_byte, fold_text, are_alike, are_alike-decides}
use Rattle.std.proofs.Math.ListN.{get_or-map}
use Rattle.std.proofs.Math.Seq.{drop-length}
use Rattle.std.proofs.lemmas.List.Elements.{All-append, All-filter, All-map, filter_passes}
use Rattle.std.specs.Cmp.Lexicographic.{texts_ties}
use Rattle.langtag_scan.proofs.CaseLaw.{hyphen-fold, fold_text-twice, length-fold}
use Rattle.langtag_range.specs.Definitions.{Element, ends_subtag, before_hyphens, ends_in_single, fallbacks, is_star, folded, wanted_elements}
use Rattle.langtag_range.proofs.AlikeTexts.{alike_headers, is_star-fold}
use Rattle.langtag_range.proofs.Among.{length-alike}
use Rattle.langtag_choice.specs.Serves.{serves, reach, is_wish, is_excluded}
use Rattle.langtag_choice.specs.Serves.{IsAtMost, rank}
use Rattle.langtag_choice.specs.Best.{IsChoice, Pair, rank_of_pair, is_refused, longest}
use Rattle.langtag_choice.specs.ChoiceLaws.{IsOnlyChoice, AnswersLookUp, IsHeaviest, IsFirstAlike, AnswersEqual, IgnoresCase, IgnoresHeaderCase}
use Rattle.langtag_choice.specs.Nearness.{kept, is_fallback, lost}
use Rattle.langtag_choice.specs.AsRead.{lost_as_read}
use Rattle.langtag_choice.proofs.AsRead.{behind-fold, codes-alike, first-alike, one_code}
use Rattle.langtag_choice.proofs.RegionWidths.{width-alike}
use Rattle.langtag_choice.proofs.TransformedTexts.{transform-fold, transform-none}
use Rattle.langtag_choice.proofs.VariantTexts.{lacking-fold, lacking-none}
use Rattle.langtag_choice.proofs.AlikeDistances.{distance-none, unlikely-alike, distance-alike, both-alike}

-- ---- it is the only one

-- two that are at most each other are one
pub both_at_most : (a b : List ℕ) → IsAtMost a b → IsAtMost b a → a ≡ b
both_at_most a b one other =
    (bytes_decides a b).0 (grind (arith, common_steps, texts_ties a b, nat_list_cmp_total.antisymm b a))

module _ (elements : List Element) (tags : List (Option (List ℕ))) where
  -- pairs that are at most each other have one index
  pub same_index :
      (a b : Pair elements tags) → IsAtMost (rank_of_pair elements tags a) (rank_of_pair elements tags b) → IsAtMost (rank_of_pair elements tags b) (rank_of_pair elements tags a) →
      a.index ≡ b.index
  unfolding rank
  same_index a b one other = ap (λ ranks. get_or ranks 10 0) (both_at_most (rank_of_pair elements tags a) (rank_of_pair elements tags b) one other)

  -- so there is only one choice
  pub only_choice : (answer : Option ℕ) → IsChoice elements tags answer → IsOnlyChoice elements tags answer
  only_choice None none None also = refl
  only_choice None none (Some j) some = absurd (none some.pair)
  only_choice (Some i) some None none = absurd (none some.pair)
  only_choice (Some i) some (Some j) also =
      grind (arith, nat_tests, same_index also.pair some.pair (also.least some.pair) (some.least also.pair))

-- ---- what a range falls back to

-- what stands before a hyphen of a range
abbrev IsBefore : List ℕ → List ℕ → Type 0
IsBefore range text = (rest : List ℕ) × (range ≡ text ++ 45 ∷ rest)

hyphen_here : (b : ℕ) (text : List ℕ) → All (IsBefore (b ∷ text)) (cond (b == 45) ([] ∷ []) [])
hyphen_here b text = elim (eqb_tells b 45) [
  | inl same ↦ rw (same.0) (All-cons (IsBefore (b ∷ text)) [] [] (text, ap (λ first. first ∷ text) (same.1)) (All-nil (IsBefore (b ∷ text))))
  | inr other ↦ rw (other.0) (All-nil (IsBefore (b ∷ text)))
]

all_before : (range : List ℕ) → All (IsBefore range) (before_hyphens range)
all_before [] = All-nil (IsBefore [])
all_before (b ∷ text) =
    All-append (IsBefore (b ∷ text)) (map (λ t. b ∷ t) (before_hyphens text)) (cond (b == 45) ([] ∷ []) [])
    (All-map (IsBefore (b ∷ text)) (λ t. b ∷ t) (before_hyphens text) (λ k d inside. let before = all_before text k d inside in (before.0, ap (λ t. b ∷ t) (before.1))))
    (hyphen_here b text)

pub ends_in_single-fold : (text : List ℕ) → ends_in_single (fold_text text) ≡ ends_in_single text
unfolding fold_byte
ends_in_single-fold text = rw (length-map text fold_byte, get_or-map fold_byte text (length text - 2) 0, hyphen-fold (get_or text (length text - 2) 0)) refl

-- a tag that is the whole range
pub whole_fallback : (range tag : List ℕ) → Alike range tag → is_fallback range tag ≡ true
whole_fallback range tag alike = grind (arith, common_steps, length-alike, are_alike-decides, take-length, drop-length, eq-eqb)

shorter_fallback : (range text tag : List ℕ) → IsBefore range text → not (ends_in_single text) ≡ true → Alike text tag → is_fallback range tag ≡ true
shorter_fallback range text tag before multiple alike =
    grind (arith, length-alike text tag alike, are_alike-decides text tag, ends_in_single-fold text, ends_in_single-fold tag, take-append_seam text (45 ∷ before.0), drop-append_seam text (45 ∷ before.0))

abbrev Falls : List ℕ → List ℕ → Type 0
Falls range text = (tag : List ℕ) → Alike text tag → is_fallback range tag ≡ true

all_fall : (range : List ℕ) → All (Falls range) (fallbacks range)
all_fall range =
    All-cons (Falls range) range (filter (λ text. not (ends_in_single text)) (before_hyphens range)) (λ tag alike. whole_fallback range tag alike)
    (λ k d inside tag alike.
    shorter_fallback range _ tag (All-filter (λ text. not (ends_in_single text)) (IsBefore range) (before_hyphens range) (all_before range) k d inside)
    (filter_passes (λ text. not (ends_in_single text)) (before_hyphens range) k d inside) alike)

-- ---- that tag may serve the range

pub look_up_answered : (elements : List Element) (tags : List (Option (List ℕ))) (answer : Option ℕ) → IsChoice elements tags answer → AnswersLookUp elements tags answer
unfolding serves kept
look_up_answered elements tags answer some place element index tag range_there wish star there free long found =
    grind (arith, common_steps, nat_tests, all_fall)

-- ---- what is kept whole is the range

alike_kept : (range tag : List ℕ) → 0 < length range → lost range tag ≡ 0 → Alike range tag
unfolding kept
alike_kept range tag some whole = grind (arith, common_steps, and_parts, are_alike-decides, length-alike, length-take, take-length)

module _ (elements : List Element) (all : List (Option (List ℕ))) (place : ℕ) (element : Element) (index : ℕ) (heaviest : IsHeaviest elements place element) (wish : IsTrue (is_wish element)) (most : element.weight ≤ 1000) (star : is_star element.range ≡ false) (long : 0 < length element.range) (first : IsFirstAlike elements all element.range index) where
  lost_none : lost element.range first.tag ≡ 0
  unfolding kept
  lost_none = grind (arith, nat_tests, whole_fallback, length-alike)

  lost_as_read_none : lost_as_read element.range first.tag ≡ 0
  unfolding lost_as_read
  lost_as_read_none = rw (one_code element.range first.tag first.alike) lost_none

  reach_none : reach element.range first.tag ≡ 0
  unfolding reach
  reach_none = let near = distance-none element.range first.tag first.alike in rw near refl

  -- it may serve the range
  own_pair : Pair elements all
  unfolding serves
  own_pair = grind (arith, nat_tests, reach_none)

  leads : (other : Pair elements all) → IsAtMost (rank place element index first.tag) (rank_of_pair elements all other)
  unfolding rank
  leads other =
      grind (arith, nat_tests, reach_none, lacking-none element.range first.tag first.alike, heaviest.first other.place, heaviest.most other.place, heaviest.there, lost_none, lost_as_read_none, alike_kept, unlikely-alike, transform-none element.range first.tag first.alike, width-alike, ltb-false, eqb_tells)

  is_answer : (answer : Option ℕ) → IsChoice elements all answer → answer ≡ Some index
  unfolding own_pair
  is_answer None none = absurd (none own_pair)
  is_answer (Some i) some = ap Some (sym some.here ∙ same_index elements all some.pair own_pair (some.least own_pair) (leads some.pair))

pub equal_answered : (elements : List Element) (tags : List (Option (List ℕ))) (answer : Option ℕ) → IsChoice elements tags answer → AnswersEqual elements tags answer
equal_answered elements tags answer is place element index heaviest wish most star long first = is_answer elements tags place element index heaviest wish most star long first answer is

-- ---- a range and a tag

same-fold : (a b : List ℕ) → are_alike (fold_text a) (fold_text b) ≡ are_alike a b
same-fold a b = both-alike (fold_text a) a (fold_text b) b (fold_text-twice a) (fold_text-twice b)

ends_subtag-fold : (text : List ℕ) → ends_subtag (fold_text text) ≡ ends_subtag text
ends_subtag-fold text = grind (arith, hyphen-fold)

is_fallback-fold : (range tag : List ℕ) → is_fallback (fold_text range) (fold_text tag) ≡ is_fallback range tag
is_fallback-fold range tag = grind (arith, common_steps, ends_in_single-fold, length-fold, take-map, drop-map, same-fold, ends_subtag-fold)

kept-fold : (range tag : List ℕ) → kept (fold_text range) (fold_text tag) ≡ kept range tag
unfolding kept
kept-fold range tag = rw (is_fallback-fold range tag, length-fold tag) refl

lost-fold : (range tag : List ℕ) → lost (fold_text range) (fold_text tag) ≡ lost range tag
lost-fold range tag = rw (kept-fold range tag, length-fold range) refl

lost_as_read-fold : (range tag : List ℕ) → lost_as_read (fold_text range) (fold_text tag) ≡ lost_as_read range tag
unfolding lost_as_read
lost_as_read-fold range tag =
    let codes = codes-alike _ _ _ _ (first-alike _ _ (fold_text-twice range)) (first-alike _ _ (fold_text-twice tag)) in
    grind (arith, codes, behind-fold, is_fallback-fold, length-fold, lost-fold range tag)

reach-fold : (range tag : List ℕ) → reach (fold_text range) (fold_text tag) ≡ reach range tag
unfolding reach
reach-fold range tag = ap (λ n. cond (nat_lt n 50) n 50) (distance-alike (fold_text range) range (fold_text tag) tag (fold_text-twice range) (fold_text-twice tag))

serves-fold : (element : Element) (tag : List ℕ) → serves (folded element) (fold_text tag) ≡ serves element tag
unfolding serves
serves-fold element tag = rw (is_star-fold element.range, reach-fold element.range tag, kept-fold element.range tag) refl

rank-fold : (place : ℕ) (element : Element) (index : ℕ) (tag : List ℕ) → rank place (folded element) index (fold_text tag) ≡ rank place element index tag
unfolding rank
rank-fold place element index tag = grind (arith, common_steps, lacking-fold, reach-fold, lost-fold, lost_as_read-fold, unlikely-alike, transform-fold, width-alike, fold_text-twice)

-- ---- what is refused

longest-fold : (of_kind : Element → Bool) → ((element : Element) → of_kind (folded element) ≡ of_kind element) → (elements : List Element) (tag : List ℕ) →
    longest of_kind (map folded elements) (fold_text tag) ≡ longest of_kind elements tag
longest-fold of_kind same [] tag = refl
longest-fold of_kind same (element ∷ elements) tag =
    grind (arith, nat_tests, common_steps, is_star-fold, length-fold, take-map, drop-map, same-fold, ends_subtag-fold, length-fold element.range, longest-fold of_kind same elements tag)

is_refused-fold : (elements : List Element) (tag : List ℕ) → is_refused (map folded elements) (fold_text tag) ≡ is_refused elements tag
unfolding is_refused
is_refused-fold elements tag = grind (arith, nat_tests, longest-fold is_wish, longest-fold is_excluded)

-- ---- what is chosen

-- where one list has an element, another that is equal but for case has one that is
at-folded :
    {A : Type 0} (fold : A → A) (xs ys : List A) (k : ℕ) (x : A) → map fold xs ≡ map fold ys → slice_get xs k ≡ Some x → (y : A) × (slice_get ys k ≡ Some y) × (fold x ≡ fold y)
at-folded {A} fold xs ys k x same there = grind (arith, nat_tests, slice_get-map fold ys k, slice_get-map fold xs k)

module _ (elements es : List Element) (tags ts : List (Option (List ℕ))) (same_elements : map folded elements ≡ map folded es) (same_tags : map (option_map fold_text) tags ≡ map (option_map fold_text) ts) where
  -- a pair among others that are equal but for case, of the same rank
  abbrev IsPairAlike : Pair elements tags → Type 0
  IsPairAlike pair = (other : Pair es ts) × (other.index ≡ pair.index) × (rank_of_pair es ts other ≡ rank_of_pair elements tags pair)

  pair-alike : (pair : Pair elements tags) → IsPairAlike pair
  pair-alike pair = by_tag (at-folded (option_map fold_text) tags ts pair.index (Some pair.tag) same_tags pair.there)
    where
      by_tag : (o : Option (List ℕ)) × (slice_get ts pair.index ≡ Some o) × (Some (fold_text pair.tag) ≡ option_map fold_text o) → IsPairAlike pair
      by_tag (None, there, same) = absurd cc
      by_tag (Some tag, there, same) =
          let at = at-folded folded elements es pair.place pair.element same_elements pair.wanted in
          let served : serves at.0 tag ≡ true = cc (serves-fold at.0 tag, serves-fold pair.element pair.tag, pair.served, at.2) in
          let free : is_refused es tag ≡ false = cc (is_refused-fold es tag, is_refused-fold elements pair.tag, pair.unrefused) in
          let ranks : rank pair.place at.0 pair.index tag ≡ rank pair.place pair.element pair.index pair.tag =
          cc (rank-fold pair.place at.0 pair.index tag, rank-fold pair.place pair.element pair.index pair.tag, at.2) in
          (record { place = pair.place; element = at.0; wanted = at.1; index = pair.index; tag = tag; there = there; served = served; unrefused = free }, refl, ranks)

pub case_ignored : (elements : List Element) (tags : List (Option (List ℕ))) (answer : Option ℕ) → IsChoice elements tags answer → IgnoresCase elements tags answer
case_ignored elements tags None none es ts same_elements same_tags = λ pair. none (pair-alike es elements ts tags (sym same_elements) (sym same_tags) pair).0
case_ignored elements tags (Some i) some es ts same_elements same_tags =
    let own = pair-alike elements es tags ts same_elements same_tags some.pair in
    record {
      pair = own.0;
      here = own.1 ∙ some.here;
      least = λ other.
          let before = pair-alike es elements ts tags (sym same_elements) (sym same_tags) other in
          subst (λ r. IsAtMost r (rank_of_pair es ts other)) (sym own.2) (subst (IsAtMost (rank_of_pair elements tags some.pair)) before.2 (some.least before.0));
    }

pub header_case_ignored : (header : List ℕ) (tags : List (Option (List ℕ))) (answer : Option ℕ) → IsChoice (wanted_elements header) tags answer → IgnoresHeaderCase header tags answer
header_case_ignored header tags answer is other ts alike = case_ignored (wanted_elements header) tags answer is (wanted_elements other) ts (sym (alike_headers header other alike))
