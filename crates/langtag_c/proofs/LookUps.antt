-- What a walk over the elements of a header finds is what lookup finds first among the acceptable ones, the heaviest
-- first.
use Rattle.langtag_keyword.proofs.Common.{filter, list_all, and_parts, take_all, ◌≡◌, ℕ, ◌+◌, ◌-◌, ◌<◌, ◌≤◌, Bool, true, false, not, nat_lt, cond, List, [], ◌∷◌, ◌++◌, map, length, take, get_or, Option, None, Some, unwrap_or, ap, refl, sym, subst, ◌∙◌, arith, rules, suc, zero, sum_by, AllByRecursion, option_map_or, nat_tests, length-map, take_more, common_steps, are_alike, length-slice_split, is_some, slice_get, option_map}
use Rattle.langtag_c.proofs.FoundExtension.{nothing-in}
use Rattle.langtag_c.specs.Negotiation.{filled_items}
use Rattle.langtag_range.specs.Definitions.{element, from_first, trimmed, is_ows, is_space, Element, is_comma, items, fallbacks, digits_behind, written, written_elements, written_items}
use Rattle.langtag_match.specs.AcceptLanguage.{are_good, elements, IsByWeight, StandsAt, acceptable, bad_part, is_good, weight_in}
use Rattle.langtag_scan.proofs.Prelude.{position, slice_range, cons_option, eqb, length-append, IfSome, list_all-append, list_all_at, take-append-drop, position-Some, sum_by-append, get_or_from_slice_get, slice_get_read, slice_get_within, slice_split-cons_no, slice_split-cons_yes}
use Rattle.std.specs.List.{filter_map, prefix_len}
use Rattle.std.proofs.Common.{drop, if◌then◌else◌, length-drop}
use Rattle.std.proofs.Math.Seq.{drop-append-add}
use Rattle.std.proofs.lemmas.List.{drop-append-le, take-append-le}
use Rattle.std.proofs.lemmas.List.Sums.{sum_by_more_le}
use Rattle.langtag.specs.declared.lang_tag.LangTag.{LangTag}
use Rattle.langtag.specs.Text.{lang_tag_text}
use Rattle.langtag_match.specs.Stable.{with_key}
use Rattle.langtag_match.specs.declared.accept_language_error.ElementPart.{ElementPart}
use Rattle.langtag_c.proofs.TagsAt.{item_stands, sum_by-slice_split, width, are_tags_at, is_tag_at, one_tag_at}
use Rattle.langtag_c.specs.Spanned.{IsTagAt}
use Rattle.langtag_c.specs.Heaviest.{heaviest}
use Rattle.langtag_c.specs.LookUp.{IsBadAt, IsLookedUp, first_index_alike, first_found, index_alike}
use Rattle.langtag_c.specs.Spans.{HasBytes, span_text}
use Rattle.langtag_c.specs.TagsAt.{tag_at, tags_at}
use Rattle.langtag_c.specs.declared.span.Span.{Span}
use Rattle.langtag_match.proofs.Readings.{AtMost, IsFalling, AtMost-weaker, placed}
use Rattle.langtag_c.specs.RangePlaces.{IsRangeAt, has_range, range_count, spaces_before}

-- ---- the elements by descending weight

-- an element before the first of some that is not heavier
abbrev put : Element → List Element → List Element
put e [] = e ∷ []
put e (f ∷ fs) = if nat_lt e.weight f.weight then f ∷ put e fs else e ∷ f ∷ fs

abbrev by_weight : List Element → List Element
by_weight [] = []
by_weight (e ∷ es) = put e (by_weight es)

AtMost-put : (n : ℕ) (e : Element) (fs : List Element) → e.weight ≤ n → AtMost n fs → AtMost n (put e fs)
AtMost-put n e [] less all = (less, tt)
AtMost-put n e (f ∷ fs) less all = grind (arith, AtMost-put n e fs less all.1)

IsFalling-put : (e : Element) (fs : List Element) → IsFalling fs → IsFalling (put e fs)
IsFalling-put e [] falls = (tt, tt)
IsFalling-put e (f ∷ fs) falls = grind (arith, nat_tests, IsFalling-put e fs falls.1, AtMost-put f.weight e fs, AtMost-weaker f.weight e.weight fs)

IsFalling-by_weight : (es : List Element) → IsFalling (by_weight es)
IsFalling-by_weight [] = tt
IsFalling-by_weight (e ∷ es) = IsFalling-put e (by_weight es) (IsFalling-by_weight es)

-- those of one weight stay as they were
with_key-put : (k : ℕ) (e : Element) (fs : List Element) → with_key weight_in k (put e fs) ≡ with_key weight_in k (e ∷ fs)
with_key-put k e [] = refl
with_key-put k e (f ∷ fs) = grind (arith, nat_tests, with_key-put k e fs)

with_key-by_weight : (k : ℕ) (es : List Element) → with_key weight_in k (by_weight es) ≡ with_key weight_in k es
with_key-by_weight k [] = refl
with_key-by_weight k (e ∷ es) = with_key-put k e (by_weight es) ∙ ap (λ fs. cond (eqb e.weight k) (e ∷ fs) fs) (with_key-by_weight k es)

is_by_weight : (es : List Element) → IsByWeight es (by_weight es)
is_by_weight es = record { in_order = IsFalling-by_weight es; stable = λ k. with_key-by_weight k es }

-- ---- what they find

module _ (tags : List (Option (List ℕ))) where
  abbrev found_by : Element → Option ℕ
  found_by e = first_index_alike tags (fallbacks e.range)

  -- an element that finds nothing changes nothing
  found-lost : (e : Element) (fs : List Element) → found_by e ≡ None → first_found tags (put e fs) ≡ first_found tags fs
  found-lost e [] none = rw none refl
  found-lost e (f ∷ fs) none = grind (arith, found-lost e fs none)

  -- and one that finds a tag hides those that are not heavier
  found-lighter : (d e : Element) (fs : List Element) (i : ℕ) → found_by d ≡ Some i → e.weight ≤ d.weight → first_found tags (put d (put e fs)) ≡ first_found tags (put d fs)
  found-lighter d e [] i some low = grind (arith, nat_tests)
  found-lighter d e (f ∷ fs) i some low = grind (arith, nat_tests, found-lighter d e fs i some low)

  put-swap : (d e : Element) (fs : List Element) → d.weight < e.weight → put d (put e fs) ≡ put e (put d fs)
  put-swap d e [] less = grind (arith, nat_tests)
  put-swap d e (f ∷ fs) less = grind (arith, nat_tests, put-swap d e fs less)

  found-after : (d : Element) (i : ℕ) (es : List Element) → found_by d ≡ Some i → heaviest tags es (Some i) d.weight ≡ first_found tags (put d (by_weight (acceptable es)))
  found-after d i [] some = rw some refl
  found-after d i (e ∷ es) some =
      let later : (j : ℕ) → found_by e ≡ Some j → heaviest tags es (Some j) e.weight ≡ first_found tags (put e (by_weight (acceptable es))) = λ j. found-after e j es in
      grind (arith, nat_tests, found-after d i es some, found-lost, found-lighter, put-swap)

  pub heaviest-first : (es : List Element) → heaviest tags es None 0 ≡ first_found tags (by_weight (acceptable es))
  heaviest-first [] = refl
  heaviest-first (e ∷ es) = grind (arith, nat_tests, heaviest-first es, found-lost, found-after)

  -- ---- an index of a tag

  abbrev IsIndex : Option ℕ → Type 0
  IsIndex found = IfSome found (λ index. index < length tags)

  index-first : (texts : List (List ℕ)) → IsIndex (first_index_alike tags texts)
  index-first [] = tt
  index-first (text ∷ texts) = grind (arith, position-Some, index-first texts)

  index-found : (es : List Element) → IsIndex (first_found tags es)
  index-found [] = tt
  index-found (e ∷ es) = grind (arith, index-first (fallbacks e.range), index-found es)

-- ---- the answer

pub is_looked_up :
    (header text : List ℕ) (spans : List Span) (answer : ℕ) →
    answer ≡ unwrap_or (heaviest (tags_at text spans) (elements (items header)) None 0) (length spans) → IsLookedUp header text spans answer
is_looked_up header text spans answer is = grind (arith, common_steps, are_tags_at, is_by_weight, heaviest-first)

pub looked_up_within : (header text : List ℕ) (spans : List Span) → unwrap_or (heaviest (tags_at text spans) (elements (items header)) None 0) (length spans) ≤ length spans
looked_up_within header text spans =
    let first = heaviest-first (tags_at text spans) (elements (items header)) in
    let index = index-found (tags_at text spans) (by_weight (acceptable (elements (items header)))) in
    grind (arith, length-map spans (tag_at text))

-- ---- the first of some spans

prefix_len-map : {X Y : Type 0} (p : Y → Bool) (f : X → Y) (xs : List X) → prefix_len (λ x. p (f x)) xs ≡ prefix_len p (map f xs)
prefix_len-map p f [] = refl
prefix_len-map p f (x ∷ xs) = ap (λ n. cond (p (f x)) (1 + n) 0) (prefix_len-map p f xs)

position-map : {X Y : Type 0} (p : Y → Bool) (f : X → Y) (xs : List X) → position (λ x. p (f x)) xs ≡ position p (map f xs)
position-map p f xs = rw (prefix_len-map (λ y. not (p y)) f xs, ← length-map xs f) refl

pub position_spans :
    (text wanted : List ℕ) (spans : List Span) →
    position (λ span. option_map_or (λ tag. are_alike tag wanted) (tag_at text span) false) spans ≡ index_alike (tags_at text spans) wanted
position_spans text wanted spans = position-map (λ tag. option_map_or (λ t. are_alike t wanted) tag false) (tag_at text) spans

-- whether what a span is, is a text in any case: by the bytes of the span first
module _ (text wanted bytes : List ℕ) (span : Span) (same : HasBytes text span → bytes ≡ span_text text span) where
  abbrev is_wanted : Option (List ℕ) → Bool
  is_wanted tag = option_map_or (λ t. are_alike t wanted) tag false

  pub alike_then : (tag : Option LangTag) → IsTagAt text span (option_map lang_tag_text tag) → are_alike bytes wanted ≡ true → is_some tag ≡ is_wanted (tag_at text span)
  alike_then tag is alike = grind (arith, nat_tests, one_tag_at text span (option_map lang_tag_text tag))

  pub alike_else : are_alike bytes wanted ≡ false → false ≡ is_wanted (tag_at text span)
  alike_else differ = grind (arith, nat_tests, is_tag_at text span)

-- ---- one more item of a header

module _ {X : Type 0} (all : List (List ℕ)) (yielded : List X) (x : X) (item : List ℕ) (below : length yielded < length all) (at : item ≡ get_or all (length yielded) item) where
  pub take_next : take (length (yielded ++ x ∷ [])) all ≡ take (length yielded) all ++ item ∷ []
  take_next = ap (λ n. take n all) (length-append yielded (x ∷ [])) ∙ take_more all (length yielded) item below ∙ ap (λ i. take (length yielded) all ++ i ∷ []) (sym at)

  pub good-next : are_good (take (length yielded) all) ≡ true → is_good item ≡ true → are_good (take (length (yielded ++ x ∷ [])) all) ≡ true
  good-next so_far good = ap are_good take_next ∙ list_all-append is_good (take (length yielded) all) (item ∷ []) ∙ rw (so_far, good) refl

  pub width-next : sum_by width (take (length (yielded ++ x ∷ [])) all) ≡ sum_by width (take (length yielded) all) + length item + 1
  width-next = omega (arith, ap (sum_by width) take_next, sum_by-append width (take (length yielded) all) (item ∷ []))

-- ---- a bad item, by what stands before it

-- the bytes of a part of an item stand where the part does
part_bytes :
    (before item after : List ℕ) (start first stop : ℕ) → length before ≡ start → first ≤ stop → stop ≤ length item →
    slice_range (before ++ (item ++ after)) (start + first) (start + first + (stop - first)) ≡ slice_range item first stop
part_bytes before item after start first stop size ordered within =
    grind (arith, nat_tests, drop-append-add before (item ++ after) first, drop-append-le first item after, take-append-le (stop - first) (drop first item) after, length-drop)

module _ (header item : List ℕ) (n : ℕ) (below : n < length (items header)) (at : item ≡ get_or (items header) n item) where
  -- the first items, their commas, and one item more
  pub width_fits : sum_by width (take n (items header)) + length item ≤ length header
  width_fits = omega (arith, sum_by_more_le width (items header) n item below, ap length at, sum_by-slice_split is_comma header)

  pub is_bad_at :
      (start : ℕ) (part : ElementPart) → start ≡ sum_by width (take n (items header)) → are_good (take n (items header)) ≡ true →
      is_good item ≡ false → part ≡ bad_part item → (first stop : ℕ) → first ≤ stop → stop ≤ length item → is_ows (take first item) ≡ true →
      slice_range item first stop ≡ trimmed item → IsBadAt header (record { start = start + first; len = stop - first }) part
  is_bad_at start part begins good bad which first stop ordered within space cut_is =
      let there = slice_get_read (items header) (length (items header)) n item refl below at in
      let place = subst (StandsAt header item n) (sym begins) (item_stands header n item there) in
      let (before, after, cut, commas, size) = place in
      record {
        within = omega (arith, begins, width_fits, ordered, within);
        commas = n;
        first = record {
          item = item;
          there = there;
          start = start;
          place = place;
          space = first;
          begins = placed item (trimmed item) first stop ordered within space cut_is;
          at = refl;
          bad = bad;
          which = which;
          before = good;
        };
        there = sym cut_is ∙ sym (ap (λ t. slice_range t (start + first) (start + first + (stop - first))) cut ∙ part_bytes before item after start first stop size ordered within);
      }

-- where one is bad, not all are good
pub not_good : (header : List ℕ) (span : Span) (part : ElementPart) → IsBadAt header span part → are_good (items header) ≡ false
not_good header span part bad =
    let bad_one = list_all_at is_good (items header) bad.commas bad.first.item in
    grind (arith, nat_tests, bad_one, slice_get_within, get_or_from_slice_get, bad.first)

-- ---- an item has no comma

abbrev IsAlone : List ℕ → Type 0
IsAlone item = items item ≡ item ∷ []

all_alone : (text : List ℕ) → AllByRecursion IsAlone (items text)
all_alone [] = (refl, tt)
all_alone (b ∷ text) = grind (arith, common_steps, all_alone text, slice_split-cons_yes, length-slice_split, slice_split-cons_no)

alone_at : (all : List (List ℕ)) (k : ℕ) (item : List ℕ) → AllByRecursion IsAlone all → slice_get all k ≡ Some item → IsAlone item
alone_at [] k item alone is = absurd cc
alone_at (x ∷ all) zero item alone is = let same : x ≡ item = cc in subst IsAlone same alone.0
alone_at (x ∷ all) (suc k) item alone is = alone_at all k item alone.1 is

-- ---- so it has the range that it has as a header of its own

has_one : (item : List ℕ) (e : Element) (es : List Element) → IsAlone item → written_elements item ≡ e ∷ es → written item [] ≡ Some e
has_one item e es alone is = grind (arith, nat_tests, alone)

has_none : (item : List ℕ) → IsAlone item → written_elements item ≡ [] → written item [] ≡ None
has_none item alone is = grind (arith, nat_tests, alone)

-- ---- the item at an index

pub spaces_within : (item : List ℕ) → spaces_before item ≤ length item
spaces_within item = grind (arith, nat_tests, position-Some)

module _ (header item : List ℕ) (n : ℕ) (below : n < length (items header)) (at : item ≡ get_or (items header) n item) where
  there : slice_get (items header) n ≡ Some item
  there = slice_get_read (items header) (length (items header)) n item refl below at

  alone : IsAlone item
  alone = alone_at (items header) n item (all_alone header) there

  pub is_range_at :
      (start place : ℕ) (span : Span) (e : Element) (es : List Element) → start ≡ sum_by width (take n (items header)) → range_count (take n (items header)) ≡ place →
      written_elements item ≡ e ∷ es → span.start ≡ start + spaces_before item → span.len ≡ length e.range → IsRangeAt header place span
  is_range_at start place span e es begins count is first size = search (rules, begins, count, is, first, size, there, item_stands, has_one, alone)

  module _ {X : Type 0} (yielded : List X) (x : X) (same : length yielded ≡ n) where
    counted : (b : Bool) → has_range item ≡ b → range_count (take (length (yielded ++ x ∷ [])) (items header)) ≡ range_count (take (length yielded) (items header)) + cond b 1 0
    counted b is = grind (arith, nat_tests, take_next (items header) yielded x item, sum_by-append)

    pub one_more : (e : Element) (es : List Element) → written_elements item ≡ e ∷ es → range_count (take (length (yielded ++ x ∷ [])) (items header)) ≡ range_count (take (length yielded) (items header)) + 1
    one_more e es is = counted true (ap is_some (has_one item e es alone is))

    pub no_more : written_elements item ≡ [] → range_count (take (length (yielded ++ x ∷ [])) (items header)) ≡ range_count (take (length yielded) (items header))
    no_more is = counted false (ap is_some (has_none item alone is)) ∙ omega arith

-- ---- so many ranges has a header

same_range : (item behind : List ℕ) → is_some (written item behind) ≡ has_range item
unfolding written
same_range item behind = grind (arith, nat_tests)

length-cons : (o : Option Element) (es : List Element) → length (cons_option o es) ≡ cond (is_some o) 1 0 + length es
length-cons o es = grind arith

pub length_written : (all : List (List ℕ)) → length (written_items all) ≡ range_count all
length_written [] = refl
length_written (item ∷ all) =
    let more = sum_by-append (λ it. cond (has_range it) 1 0) (item ∷ []) all in
    length-cons (written item (digits_behind all)) (written_items all)
    ∙ rw (same_range item (digits_behind all), length_written all) (omega (arith, more))

pub range_placed : (header : List ℕ) (place : ℕ) (o : Option Span) (end : Span) → place < range_count (items header) → (o ≡ None → range_count (items header) ≤ place) → IfSome o (IsRangeAt header place) → IsRangeAt header place (unwrap_or o end)
range_placed header place o end within none some = grind (arith, nat_tests)

-- ---- the elements of a header

-- an empty item is not an element
spaces_trimmed : (text : List ℕ) → is_ows text ≡ true → from_first text ≡ []
spaces_trimmed [] spaces = refl
spaces_trimmed (b ∷ text) spaces = let k = and_parts (is_space b) (is_ows text) spaces in rw k.0 (spaces_trimmed text k.1)

spaces_taken : (n : ℕ) (text : List ℕ) → is_ows text ≡ true → is_ows (take n text) ≡ true
spaces_taken n text spaces =
    grind (arith, nat_tests, and_parts, take-append-drop n text, list_all-append is_space (take n text) (drop n text))

empty_no_element : (item : List ℕ) → is_ows item ≡ true → element item ≡ None
unfolding element
empty_no_element item spaces = grind (arith, common_steps, spaces_trimmed, spaces_taken)

pub same_elements : (items : List (List ℕ)) → elements items ≡ filter_map element (filter (λ item. not (is_ows item)) items)
same_elements [] = refl
same_elements (item ∷ items) = grind (arith, nat_tests, same_elements items, empty_no_element)

pub same_good : (items : List (List ℕ)) → are_good items ≡ list_all (λ item. is_some (element item)) (filter (λ item. not (is_ows item)) items)
same_good [] = refl
same_good (item ∷ items) = grind (arith, nat_tests, same_good items)

-- all of a header is a span of it
pub whole_elements : (header : List ℕ) → elements (filled_items (span_text header (record { start = 0; len = length header }))) ≡ elements (items header)
whole_elements header = grind (arith, nat_tests, take_all (0 + length header - 0) header, same_elements (items header))

-- no bytes are no item
pub nothing_filled : (header : List ℕ) (rest : Span) → rest.len ≡ 0 → filled_items (span_text header rest) ≡ []
nothing_filled header rest none = ap filled_items (nothing-in header rest none)
