-- What a loop over the items of a header has read, and that a header has one reading, which is the one that a sort makes.
use Rattle.langtag_scan.proofs.Prelude.{length-take, slice_range, length-drop, ◌≡◌, ◌≢◌, ℕ, Bool, true, false, eqb, List, [], ◌∷◌, ap, refl, ◌∙◌, subst, arith, ◌+◌, ◌≤◌, not, ◌&&◌, nat_lt, suc, filter, map, get_or, sym, ◌-◌, ◌<◌, ◌++◌, None, IsTrue, length, length-append, take, inl, inr, ◌⊎◌, cond, drop, count_by, AllByRecursion, after_first, before_first, position_or_len, eqb-true, eq-eqb, ne_eqb, eqb_tells, nat_tests, common_steps, IsPermutation, is_lt, nat_cmp, Ordering, nil_from_length, append_assoc, take-append-drop, filter_agree, length_permutation, get_or-append_seam, take-append_seam, list_all-append, length-slice_split, sum_by-append, slice_get_read}
use Rattle.langtag_match.specs.Stable.{IsOrderedBy, IsStableOrder, with_key}
use Rattle.std.specs.List.Sorted.{ties, IsSorted, IsStable}
use Rattle.std.proofs.lemmas.List.Elements.{filter_map-append}
use Rattle.langtag_match.specs.AcceptLanguage.{FallsTo, IsRangePlace, HasOneReading, IsByWeight, acceptable, elements, reading, weight_in, IsFirstBad, are_good, bad_part, is_good}
use Rattle.langtag_range.specs.Element.{Element, element, is_comma, is_ows, items, trimmed}
use Rattle.langtag_match.specs.declared.weighted_range.WeightedRange.{WeightedRange}
use Rattle.langtag_match.specs.declared.element.BadElement.{BadElement}
use Rattle.langtag_match.specs.declared.accept_language_error.ElementPart.{ElementPart}
use Rattle.std.specs.Prelude.{Option, Some, MatchOption}
use Rattle.langtag_range.proofs.WantedTexts.{cut_or_whole, shorter}

module _
    {A : Type 0} (key : A → ℕ) (MayPrecede : ℕ → ℕ → Type 0)
    (one_way : (j k : ℕ) → MayPrecede j k → MayPrecede k j → j ≡ k) where
  -- a key that may precede those of a list may precede that of an element in it
  may_precede :
      (j k : ℕ) (xs : List A) (x : A) (others : List A) → AllByRecursion (λ other. MayPrecede j (key other)) xs → with_key key k xs ≡ x ∷ others →
      MayPrecede j k
  may_precede j k [] x others all some = absurd cc
  may_precede j k (y ∷ ys) x others all some = grind (arith, common_steps, eqb_tells (key y) k, may_precede j k ys x others all.1)

  -- so may the key of the first of a list that of the first of another, where those of one key are the same in both
  first_precedes :
      (x y : A) (xs ys : List A) → AllByRecursion (λ other. MayPrecede (key y) (key other)) ys → key y ≢ key x →
      with_key key (key x) (x ∷ xs) ≡ with_key key (key x) (y ∷ ys) → MayPrecede (key y) (key x)
  first_precedes x y xs ys all differ same =
      grind (arith, common_steps, eq-eqb (key x) (key x) refl, ne_eqb (key y) (key x) differ, may_precede (key y) (key x) ys x (with_key key (key x) xs) all)

  ordered_once :
      (xs ys : List A) → IsOrderedBy key MayPrecede xs → IsOrderedBy key MayPrecede ys → ((k : ℕ) → with_key key k xs ≡ with_key key k ys) → xs ≡ ys
  ordered_once [] [] first second same = refl
  ordered_once [] (y ∷ ys) first second same = grind (arith, common_steps, eq-eqb (key y) (key y) refl)
  ordered_once (x ∷ xs) [] first second same = grind (arith, common_steps, eq-eqb (key x) (key x) refl)
  ordered_once (x ∷ xs) (y ∷ ys) first second same =
      let heads : x ∷ with_key key (key x) xs ≡ y ∷ with_key key (key x) ys =
      rw (eq-eqb (key x) (key x) refl, eq-eqb (key y) (key x) keys) at (same (key x)) in
      let here : x ≡ y = cc in
      let there : with_key key (key x) xs ≡ with_key key (key x) ys = cc in
      let others = ordered_once xs ys first.1 second.1 (λ k. of_key k (eqb (key x) k) refl there) in
      cc
    where
      keys : key y ≡ key x
      keys = grind (arith, common_steps, eqb_tells (key y) (key x), first_precedes x y xs ys second.0, first_precedes y x ys xs first.0)

      of_key : (k : ℕ) (is : Bool) → eqb (key x) k ≡ is → with_key key (key x) xs ≡ with_key key (key x) ys → with_key key k xs ≡ with_key key k ys
      of_key k true is there = subst (λ j. with_key key j xs ≡ with_key key j ys) (eqb-true (key x) k is) there
      of_key k false is there = rw (is, ap (λ j. eqb j k) keys ∙ is) at (same k)

  pub stable_once : (elements xs ys : List A) → IsStableOrder key MayPrecede elements xs → IsStableOrder key MayPrecede elements ys → xs ≡ ys
  stable_once elements xs ys first second = grind (arith, common_steps, ordered_once xs ys first.in_order second.in_order)

pub one_reading : (header : List ℕ) → HasOneReading header
one_reading header first second h h4 = grind (arith, common_steps, stable_once weight_in FallsTo)

-- ---- a stable sort makes a list that falls, with those of each weight in their order

abbrev pub by_weight : WeightedRange → WeightedRange → Ordering
by_weight v w = nat_cmp w.weight v.weight

abbrev pub IsFalling : List Element → Type 0
IsFalling elements = IsOrderedBy weight_in FallsTo elements

abbrev pub AtMost : ℕ → List Element → Type 0
AtMost n elements = AllByRecursion (λ element. element.weight ≤ n) elements

pub AtMost-weaker : (n m : ℕ) (es : List Element) → n ≤ m → AtMost n es → AtMost m es
AtMost-weaker n m [] few low = tt
AtMost-weaker n m (e ∷ es) few low = let one = low.0 in (omega arith, AtMost-weaker n m es few low.1)

not_less : (a b : ℕ) → is_lt (nat_cmp a b) ≡ false → b ≤ a
not_less a b h = grind (arith, nat_tests)

IsFalling-from_sorted : (ws : List WeightedRange) → IsSorted by_weight ws → IsFalling (map reading ws)
IsFalling-from_sorted [] sorted = tt
IsFalling-from_sorted (w ∷ []) sorted = (tt, tt)
IsFalling-from_sorted (w ∷ v ∷ vs) sorted =
    let rest = IsFalling-from_sorted (v ∷ vs) (λ k d low within. subst (λ i. is_lt (by_weight (get_or (w ∷ v ∷ vs) i d) (get_or (v ∷ vs) k d)) ≡ false) (one_on k) (sorted (suc k) d (omega arith) (omega (arith, within)))) in
    let first = not_less w.weight v.weight (sorted 0 w (omega arith) (omega arith)) in
    ((first, AtMost-weaker v.weight w.weight (map reading vs) first rest.0), rest)
  where
    one_on : (k : ℕ) → suc k + 1 ≡ suc (k + 1)
    one_on k = omega arith

-- a test of the weights passes the same before and after reading
filter-reading : (test : ℕ → Bool) (ws : List WeightedRange) → filter (λ element. test element.weight) (map reading ws) ≡ map reading (filter (λ w. test w.weight) ws)
filter-reading test [] = refl
filter-reading test (w ∷ ws) = grind (arith, common_steps, filter-reading test ws)

tie : (a b : ℕ) → (not (is_lt (nat_cmp b a)) && not (is_lt (nat_cmp a b))) ≡ eqb b a
tie a b = grind (arith, nat_tests)

stable_by_weight : (kept sorted : List WeightedRange) → IsPermutation kept sorted → IsStable by_weight kept sorted → (n : ℕ) → filter (λ w. eqb w.weight n) sorted ≡ filter (λ w. eqb w.weight n) kept
stable_by_weight [] sorted same stable n = ap (filter (λ w. eqb w.weight n)) (nil_from_length sorted (length_permutation [] sorted same))
stable_by_weight (w ∷ ws) sorted same stable n =
    let one : WeightedRange = record w { weight = n } in
    let test : WeightedRange → Bool = ties (λ u v. is_lt (by_weight u v)) one in
    let is : (v : WeightedRange) → test v ≡ eqb v.weight n = λ v. tie n v.weight in
    sym (filter_agree test (λ v. eqb v.weight n) is sorted) ∙ stable one ∙ filter_agree test (λ v. eqb v.weight n) is (w ∷ ws)

pub IsByWeight-sorted :
    (read kept sorted : List WeightedRange) → kept ≡ filter (λ w. nat_lt 0 w.weight) read → IsPermutation kept sorted →
    IsSorted by_weight sorted → IsStable by_weight kept sorted → IsByWeight (acceptable (map reading read)) (map reading sorted)
IsByWeight-sorted read kept sorted some same falling stable = record {
  in_order = IsFalling-from_sorted sorted falling;
  stable = λ n.
      grind (arith, common_steps, filter-reading (λ m. eqb m n) sorted, stable_by_weight kept sorted same stable n, filter-reading (λ m. eqb m n) kept, filter-reading (nat_lt 0) read);
}

-- an empty item is no element
pub no_element : element [] ≡ None
unfolding element
no_element = refl

starts : (text : List ℕ) → (others : List (List ℕ)) × (items text ≡ before_first is_comma text ∷ others)
starts text = elim (cut_or_whole is_comma text) [ inl comma ↦ (items (after_first is_comma text), comma) | inr last ↦ ([], last.0) ]

-- a part that is cut out between two offsets is there
pub placed :
    (item part : List ℕ) (start stop : ℕ) → start ≤ stop → stop ≤ length item → IsTrue (is_ows (take start item)) → slice_range item start stop ≡ part → IsRangePlace item part start
placed item part start stop ordered within space is =
    let size : start + length part ≡ stop = grind (arith, nat_tests, length-take, length-drop) in
    record { within = omega (arith, size, within); there = ap (slice_range item start) size ∙ is; space = space }

-- ---- a reading that goes on with the rest of the header

-- all items that were read are good, or `bad` is the first bad item of the header
abbrev pub Tells : List ℕ → List (List ℕ) → Option BadElement → Type 0
Tells header done bad = MatchOption bad (IsTrue (are_good done)) (λ bad. IsFirstBad header bad.index bad.offset bad.part)

tells_more : (header : List ℕ) (done more : List (List ℕ)) (bad : Option BadElement) → (bad ≡ None → IsTrue (are_good done) → IsTrue (are_good more)) → Tells header done bad → Tells header more bad
tells_more header done more None goes told = goes refl told
tells_more header done more (Some bad) goes told = told

pub record IsReadTo (header left : List ℕ) (index : ℕ) (read : List WeightedRange) (bad : Option BadElement) : Type 0 where
  pub before : List ℕ
  pub cut : header ≡ before ++ left
  pub few : index + length left ≤ length header
  pub done : List (List ℕ)
  pub count : length done ≡ index
  pub told : Tells header done bad
  pub elements : map reading read ≡ elements done
  pub rest : (items header ≡ done ++ items left) ⊎ ((left ≡ []) × (items header ≡ done))

pub read_first : (header : List ℕ) → IsReadTo header header 0 [] None
read_first header = record { before = []; cut = refl; few = omega arith; done = []; count = refl; told = refl; elements = refl; rest = inl refl }

module _ (header left : List ℕ) (index : ℕ) (read : List WeightedRange) (bad : Option BadElement) (so_far : IsReadTo header left index read bad) where
  -- the items that were read, and the next one
  abbrev pub next_done : List (List ℕ)
  next_done = so_far.done ++ before_first is_comma left ∷ []

  -- one more item
  pub read_next :
      (more : List WeightedRange) (later : Option BadElement) → 0 < length left → Tells header next_done later → map reading more ≡ map reading read ++ elements (before_first is_comma left ∷ []) →
      IsReadTo header (after_first is_comma left) (index + 1) more later
  read_next more later some told is = record {
    before = so_far.before ++ take (position_or_len is_comma left + 1) left;
    cut = grind (arith, so_far.cut, append_assoc, take-append-drop (position_or_len is_comma left + 1) left);
    few = omega (arith, so_far.few, shorter is_comma left some);
    done = next_done;
    count = grind (arith, common_steps, so_far.count);
    told = told;
    elements = grind (arith, common_steps, filter_map-append, so_far.elements);
    rest = elim so_far.rest [
      | inl on ↦ elim (cut_or_whole is_comma left) [
        | inl comma ↦ inl (on ∙ ap (λ t. so_far.done ++ t) comma ∙ sym (append_assoc so_far.done (before_first is_comma left ∷ []) (items (after_first is_comma left))))
        | inr last ↦ inr (last.1, on ∙ ap (λ t. so_far.done ++ t) last.0)
      ]
      | inr over ↦ absurd (omega (arith, some, ap length over.0))
    ];
  }

  -- an item that is good, or after the first bad one
  pub goes_on : (bad ≡ None → is_good (before_first is_comma left) ≡ true) → Tells header next_done bad
  goes_on good = tells_more header so_far.done next_done bad (λ none all. grind (arith, common_steps, list_all-append is_good so_far.done (before_first is_comma left ∷ []), all, good none)) so_far.told

  -- the first item that is bad
  pub first_bad : (part : ElementPart) → bad ≡ None → 0 < length left → is_good (before_first is_comma left) ≡ false → part ≡ bad_part (before_first is_comma left) →
      (space : ℕ) → IsRangePlace (before_first is_comma left) (trimmed (before_first is_comma left)) space → IsFirstBad header index (length header - length left + space) part
  first_bad part none some bad which space begins =
      let on : items header ≡ so_far.done ++ items left = elim so_far.rest [ inl on ↦ on | inr over ↦ absurd (omega (arith, some, ap length over.0)) ] in
      let (others, first) = starts left in
      let all : items header ≡ so_far.done ++ before_first is_comma left ∷ others = on ∙ ap (λ t. so_far.done ++ t) first in
      let sums : count_by is_comma header ≡ count_by is_comma so_far.before + count_by is_comma left = ap (count_by is_comma) so_far.cut ∙ sum_by-append (λ b. cond (is_comma b) 1 0) so_far.before left in
      let commas : count_by is_comma so_far.before ≡ index =
      omega (arith, sums, so_far.count, ap length on, length-append so_far.done (items left), length-slice_split is_comma header, length-slice_split is_comma left) in
      record {
        item = before_first is_comma left;
        start = length header - length left;
        space = space;
        begins = begins;
        at = refl;
        there = rw (all, sym so_far.count) (slice_get_read (so_far.done ++ before_first is_comma left ∷ others) _ (length so_far.done) (before_first is_comma left) refl
            (omega (arith, length-append so_far.done (before_first is_comma left ∷ others))) (sym (get_or-append_seam so_far.done (before_first is_comma left) others (before_first is_comma left))));
        place = (so_far.before, drop (position_or_len is_comma left) left, so_far.cut ∙ ap (λ t. so_far.before ++ t) (sym (take-append-drop (position_or_len is_comma left) left)), commas, omega (arith, ap length so_far.cut, length-append so_far.before left));
        bad = bad;
        which = which;
        before = rw (all, sym so_far.count, take-append_seam so_far.done (before_first is_comma left ∷ others)) (subst (Tells header so_far.done) none so_far.told);
      }

  -- all items
  pub read_all : length left ≡ 0 → Tells header (items header) bad × (map reading read ≡ elements (items header))
  read_all none = elim so_far.rest [
    | inl on ↦
        let all : items header ≡ so_far.done ++ [] ∷ [] = on ∙ ap (λ t. so_far.done ++ items t) (nil_from_length left none) in
        rw all (tells_more header so_far.done (so_far.done ++ [] ∷ []) bad (λ none good. grind (arith, common_steps, list_all-append is_good so_far.done ([] ∷ []), good)) so_far.told, so_far.elements ∙ grind (arith, common_steps, filter_map-append, no_element))
    | inr over ↦ rw (over.1) (so_far.told, so_far.elements)
  ]
