-- What spans of a text are: tags, where the test says so.
use Rattle.langtag_keyword.proofs.Common.{◌≡◌, ℕ, zero, suc, ◌+◌, ◌<◌, Bool, true, false, List, [], ◌∷◌, Some, length, take, refl, cond, arith, ◌&&◌, get_or, Option, None, ◌≤◌, sum_by, length-map, length-slice_split, common_steps, and_parts, false_from_ne_true, nat_tests}
use Rattle.langtag_scan.proofs.Prelude.{ltb, onto_first, slice_get, slice_split, nil_from_length, get_or-map, slice_split-cons_yes, slice_split-cons_no, sum_by-cons, ForSome, both_ways, and_from, or_cases, or_right, ltb-true}
use Rattle.langtag_scan.specs.Grammar.{IsTag}
use Rattle.langtag_match.specs.AcceptLanguage.{StandsAt}
use Rattle.langtag_range.specs.Definitions.{basic_element, is_comma, items, listed}
use Rattle.std.proofs.lemmas.Bool.{or_left}
use Rattle.langtag_scan.proofs.Laws.{normal_from_runs, runs_from_normal, tag_normal, tag_private, tag_of_irregular}
use Rattle.langtag_private.proofs.Rules.{IsPrivate-from_test, is_private_use-from_rule}
use Rattle.langtag_c.specs.Spanned.{AreTagsAt, HasTag, IsTagAt, range_at, ranges_at, written_at}
use Rattle.langtag_c.specs.Spans.{HasBytes, empty_at, end_of, has_bytes, span_text}
use Rattle.langtag_c.specs.TagsAt.{is_tag, tag_at, tags_at}
use Rattle.langtag_scan.proofs.IrregularTexts.{alike_some}
use Rattle.langtag_c.specs.declared.span.Span.{Span}

abbrev pub width : List ℕ → ℕ
width item = length item + 1

pub sum_by-slice_split : (cuts : ℕ → Bool) (text : List ℕ) → sum_by width (slice_split cuts text) ≡ length text + 1
sum_by-slice_split cuts [] = refl
sum_by-slice_split cuts (b ∷ text) =
    grind (arith, common_steps, slice_split-cons_yes cuts b text, slice_split-cons_no cuts b text, sum_by-cons, length-slice_split cuts text, sum_by-slice_split cuts text)

-- ---- where an item stands: after those before it and their commas

abbrev Stands : List ℕ → List (List ℕ) → Type 0
Stands text all = (index : ℕ) (item : List ℕ) → slice_get all index ≡ Some item → StandsAt text item index (sum_by width (take index all))

-- one more byte before all items, which is a comma
stands_after_comma : (b : ℕ) (text : List ℕ) (all : List (List ℕ)) → is_comma b ≡ true → Stands text all → Stands (b ∷ text) ([] ∷ all)
stands_after_comma b text all comma others zero item is = ([], b ∷ text, cc, refl, refl)
stands_after_comma b text all comma others (suc index) item is =
    let (before, after, cut, commas, bytes) = others index item is in
    (b ∷ before, after, cc, grind (arith, common_steps, sum_by-cons (λ b. cond (is_comma b) 1 0) b before), omega (arith, bytes, sum_by-cons width [] (take index all)))

-- one more byte of the first item
stands_after_byte :
    (b : ℕ) (text : List ℕ) (all : List (List ℕ)) → 0 < length all → is_comma b ≡ false → Stands text all →
    Stands (b ∷ text) (onto_first b all)
stands_after_byte b text [] some other others index item is = absurd (omega (arith, some))
stands_after_byte b text (first ∷ all) some other others zero item is =
    let (before, after, cut, commas, bytes) = others zero first refl in
    ([], after, grind (arith, common_steps, nil_from_length before bytes), refl, refl)
stands_after_byte b text (first ∷ all) some other others (suc index) item is =
    let (before, after, cut, commas, bytes) = others (suc index) item is in
    (b ∷ before, after, cc, grind (arith, common_steps, sum_by-cons (λ b. cond (is_comma b) 1 0) b before), omega (arith, bytes, sum_by-cons width (b ∷ first) (take index all), sum_by-cons width first (take index all)))

pub item_stands : (header : List ℕ) → Stands header (items header)
item_stands [] zero item is = ([], [], cc, refl, refl)
item_stands [] (suc index) item is = absurd cc
item_stands (b ∷ text) index item is =
    grind (arith, common_steps, slice_split-cons_yes is_comma b text, stands_after_comma b text (items text), slice_split-cons_no is_comma b text, length-slice_split is_comma text, stands_after_byte b text (items text), item_stands text)

-- ---- a text

tag_from_test : (text : List ℕ) → is_tag text ≡ true → IsTag text
tag_from_test text test = grind (arith, common_steps, or_cases, tag_normal, normal_from_runs, tag_private, IsPrivate-from_test, tag_of_irregular, alike_some)

pub test_from_tag : (text : List ℕ) → IsTag text → is_tag text ≡ true
unfolding IsTag
test_from_tag text tag = grind (arith, common_steps, or_left, runs_from_normal, or_right, is_private_use-from_rule, alike_some)

-- ---- a span

pub bytes_from_test : (text : List ℕ) (span : Span) → has_bytes text span ≡ true → HasBytes text span
bytes_from_test text span test = grind (arith, common_steps, and_parts, ltb-true)

pub test_from_bytes : (text : List ℕ) (span : Span) → HasBytes text span → has_bytes text span ≡ true
test_from_bytes text span h = grind (arith, nat_tests, and_from (ltb 0 span.len) (ltb (end_of span) (length text + 1)))

tag_test : (text : List ℕ) (span : Span) → HasTag text span → (has_bytes text span && is_tag (span_text text span)) ≡ true
tag_test text span h = grind (arith, nat_tests, and_from, test_from_bytes, test_from_tag)

pub is_tag_at : (text : List ℕ) (span : Span) → IsTagAt text span (tag_at text span)
unfolding tag_at
is_tag_at text span = grind (arith, common_steps, both_ways, tag_test text span, and_parts, bytes_from_test, tag_from_test)

-- and nothing else
pub one_tag_at : (text : List ℕ) (span : Span) (tag : Option (List ℕ)) → IsTagAt text span tag → tag ≡ tag_at text span
one_tag_at text span tag is = grind (arith, nat_tests, is_tag_at text span)

-- ---- spans

pub tags_at_index :
    (text : List ℕ) (spans : List Span) (index : ℕ) → index < length (tags_at text spans) →
    get_or (tags_at text spans) index None ≡ tag_at text (get_or spans index (empty_at 0))
tags_at_index text spans index within = grind (arith, nat_tests, get_or-map (tag_at text) spans index (empty_at 0) None, length-map spans (tag_at text))

-- the bytes of a span that is a tag are the tag
pub tag_bytes :
    (text : List ℕ) (spans : List Span) (index : ℕ) (bytes : List ℕ) → index < length (tags_at text spans) →
    (HasBytes text (get_or spans index (empty_at 0)) → bytes ≡ span_text text (get_or spans index (empty_at 0))) → ForSome (get_or (tags_at text spans) index None) (λ tag. bytes ≡ tag)
tag_bytes text spans index bytes within same tag is =
    grind (arith, nat_tests, tags_at_index text spans index within, is_tag_at text (get_or spans index (empty_at 0)))

pub are_tags_at : (text : List ℕ) (spans : List Span) → AreTagsAt text spans (tags_at text spans)
are_tags_at text spans = grind (arith, nat_tests, length-map spans (tag_at text), tags_at_index text spans, is_tag_at text)

-- ---- spans that are ranges

pub range_there : (text : List ℕ) (span : Span) (bytes : List ℕ) → HasBytes text span → bytes ≡ span_text text span → listed bytes ≡ range_at text span
range_there text span bytes has is = rw (test_from_bytes text span has, is) refl

pub no_range : (text : List ℕ) (span : Span) → (HasBytes text span → ⊥) → None ≡ range_at text span
no_range text span none = rw (false_from_ne_true (has_bytes text span) (λ yes. none (bytes_from_test text span yes))) refl

few_written : (text : List ℕ) (spans : List Span) → length (written_at text spans) ≤ length spans
few_written text [] = omega arith
few_written text (span ∷ spans) = grind (arith, nat_tests, few_written text spans)

pub few_ranges : (text : List ℕ) (spans : List Span) → length (ranges_at text spans) ≤ length spans
few_ranges text spans = omega (arith, few_written text spans, length-map (written_at text spans) basic_element)
