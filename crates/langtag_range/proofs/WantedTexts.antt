-- Ranges in which "_" is read as "-", white space around them, their weights, and the parts of a list that is cut one after the other.
use Rattle.langtag_scan.proofs.Prelude.{◌≡◌, ℕ, ◌+◌, ◌-◌, ◌<◌, ◌≤◌, true, false, IsTrue, List, [], ◌∷◌, length, take, drop, reverse, get_or, refl, ap, sym, ◌∙◌, arith, ◌*◌, ◌⊎◌, not, cond, Bool, ◌&&◌, ◌||◌, Some, None, rules, take_more, drop_more, drop_all, reverse-append, length-take-le, take_all, list_all-append, common_steps, and_parts, or_cases, leb-true, cases_lt, or_right, list_any, slice_split, before_first, after_first, position, position_or_len, cons_option, nat_tests, eqb_tells, length-slice_split, slice_split_first, slice_split_none, count_by-le-length, prefix_len-le-length, fails_before_first, length-drop}
use Rattle.std.proofs.lemmas.List.{reverse-reverse}
use Rattle.langtag_range.specs.Definitions.{from_first, is_ows, is_space, items, is_comma, is_semicolon, trimmed, is_hash, is_star, is_first_subtag, is_range_subtag, are_basic_range, are_extended_range, are_range_subtags, is_basic_range, is_language_range, hyphened, is_separator, is_q_name, is_q_parameter, is_equals, is_point, number_weight, value_weight, wanted_weight, written, digits_behind, written_items, written_elements}
use Rattle.langtag_range.specs.Weight.{is_qvalue, thousandths}
use Rattle.langtag_scan.specs.Grammar.{are_digits, is_private_subtag, segments, subtags}
use Rattle.langtag_scan.proofs.SubtagFacts.{letters_alphanumeric}
use Rattle.langtag_range.proofs.Places.{any_at_first, none_at_length}

module _ (text : List ℕ) (start : ℕ) (within : start < length text) where
  -- one more byte of it
  pub ows_more : is_space (get_or text start 0) ≡ true → IsTrue (is_ows (take start text)) → IsTrue (is_ows (take (start + 1) text))
  ows_more space before = grind (arith, common_steps, take_more text start 0 within, list_all-append is_space (take start text) (get_or text start 0 ∷ []))

  pub from_first_more : is_space (get_or text start 0) ≡ true → from_first (drop start text) ≡ from_first (drop (start + 1) text)
  from_first_more space = ap from_first (drop_more text start 0 within) ∙ rw space refl

  -- and the first other byte
  pub from_first_stops : is_space (get_or text start 0) ≡ false → from_first (drop start text) ≡ drop start text
  from_first_stops other = ap from_first (drop_more text start 0 within) ∙ rw other (sym (drop_more text start 0 within))

pub from_first_ends : (text : List ℕ) (start : ℕ) → length text ≤ start → from_first (drop start text) ≡ drop start text
from_first_ends text start past = let none = drop_all start text past in rw none refl

-- ---- from the end on

module _ (text : List ℕ) (len : ℕ) (some : 0 < len) (within : len ≤ length text) where
  last_first : reverse (take len text) ≡ get_or text (len - 1) 0 ∷ reverse (take (len - 1) text)
  last_first = grind (arith, common_steps, take_more text (len - 1) 0, reverse-append (take (len - 1) text) (get_or text (len - 1) 0 ∷ []))

  pub last_space : is_space (get_or text (len - 1) 0) ≡ true → from_first (reverse (take len text)) ≡ from_first (reverse (take (len - 1) text))
  last_space space = ap from_first last_first ∙ rw space refl

  pub last_stops : is_space (get_or text (len - 1) 0) ≡ false → reverse (from_first (reverse (take len text))) ≡ take len text
  last_stops other = grind (arith, common_steps, last_first, reverse-reverse (take len text))

-- ---- the value of a qvalue in thousandths, by the place of each digit

-- up to three digits after the point, each in its place
in_places :
    (whole : ℕ) (fraction : List ℕ) → length fraction ≤ 4 →
    1000 * (whole - 48) + 100 * (get_or fraction 1 48 - 48) + 10 * (get_or fraction 2 48 - 48) + (get_or fraction 3 48 - 48) ≡ thousandths (whole ∷ fraction)
in_places whole fraction few = grind (arith, common_steps)

pub thousandths_of :
    (qvalue : List ℕ) → is_qvalue qvalue ≡ true →
    1000 * (get_or qvalue 0 48 - 48) + 100 * (get_or qvalue 2 48 - 48) + 10 * (get_or qvalue 3 48 - 48) + (get_or qvalue 4 48 - 48) ≡ thousandths qvalue
thousandths_of qvalue is = grind (arith, common_steps, or_cases, in_places, and_parts, leb-true)

-- ---- the subtags of a text in which a byte is read as a hyphen

pub segments-read : (text : List ℕ) → segments (hyphened text) ≡ slice_split is_separator text
segments-read [] = refl
segments-read (b ∷ text) = grind (arith, common_steps, segments-read text, nat_tests)

-- ---- the parts of a list that is cut

-- the first part, and those of the rest; nothing is left where it was not cut
pub cut_or_whole :
    (p : ℕ → Bool) (text : List ℕ) →
    (slice_split p text ≡ before_first p text ∷ slice_split p (after_first p text)) ⊎ ((slice_split p text ≡ before_first p text ∷ []) × (after_first p text ≡ []))
cut_or_whole p text = search (rules, cases_lt, slice_split_first, take_all, slice_split_none, fails_before_first, drop_all)

-- ---- which texts are ranges so

is_star-read : (text : List ℕ) → is_star (hyphened text) ≡ is_star text
is_star-read [] = refl
is_star-read (b ∷ []) = grind (arith, common_steps, eqb_tells b 95)
is_star-read (b ∷ c ∷ text) = grind (arith, common_steps, eqb_tells b 95)

-- each first subtag of a range may stand elsewhere
pub first_in_range : (text : List ℕ) → (is_star text || is_first_subtag text) ≡ true → is_range_subtag text ≡ true
unfolding is_private_subtag
first_in_range text is = grind (arith, common_steps, or_cases, or_right, and_parts, letters_alphanumeric)

pub extended_parts :
    (first : List ℕ) (others : List (List ℕ)) →
    are_extended_range (first ∷ others) ≡ ((is_star first || is_first_subtag first) && are_range_subtags (first ∷ others))
extended_parts first others = grind (arith, common_steps, first_in_range first)

-- what is seen of the first part and of all parts is seen of the subtags of a text
seen_parts :
    (f : List (List ℕ) → Bool) (g : List ℕ → List (List ℕ) → Bool) → f [] ≡ f ([] ∷ []) → ((first : List ℕ) (others : List (List ℕ)) → f (first ∷ others) ≡ g first (first ∷ others)) →
    (text : List ℕ) → f (subtags (hyphened text)) ≡ g (before_first is_separator text) (slice_split is_separator text)
seen_parts f g none each text = grind (arith, common_steps, segments-read text, cut_or_whole is_separator text)

pub basic_read : (text : List ℕ) → is_basic_range (hyphened text) ≡ (is_star text || are_basic_range (slice_split is_separator text))
basic_read text = rw (is_star-read text, seen_parts are_basic_range (λ first parts. are_basic_range parts) refl (λ first others. refl) text) refl

pub extended_read :
    (text : List ℕ) →
    is_language_range (hyphened text)
    ≡ ((is_star (before_first is_separator text) || is_first_subtag (before_first is_separator text)) && are_range_subtags (slice_split is_separator text))
extended_read = seen_parts are_extended_range (λ first parts. (is_star first || is_first_subtag first) && are_range_subtags parts) refl extended_parts

-- ---- the elements of a header, and the weight of an element, part by part

pub elements_at :
    (header : List ℕ) →
    written_elements header ≡ cons_option (written (before_first is_comma header) (digits_behind (items (after_first is_comma header)))) (written_elements (after_first is_comma header))
unfolding written
elements_at header = grind (arith, common_steps, cut_or_whole is_comma header)

-- the digits that a text begins with, if they are its first item
pub digits_at : (text : List ℕ) → digits_behind (items text) ≡ cond (are_digits (before_first is_comma text)) (before_first is_comma text) []
digits_at text = grind (arith, common_steps, cut_or_whole is_comma text)

pub weight_at :
    (parameters behind : List ℕ) →
    wanted_weight (slice_split is_semicolon parameters) behind ≡
    cond (is_q_parameter (before_first is_semicolon parameters)) (value_weight (trimmed (after_first is_equals (before_first is_semicolon parameters))) behind) (wanted_weight (slice_split is_semicolon (after_first is_semicolon parameters)) behind)
weight_at parameters behind = grind (arith, common_steps, cut_or_whole is_semicolon parameters)

-- what is left is shorter
pub shorter : (p : ℕ → Bool) (text : List ℕ) → 0 < length text → length (after_first p text) < length text
shorter p text some = omega (arith, length-drop (position_or_len p text + 1) text)

-- ---- a text has a mark if it ends behind what stands before one

cut_at : (p : ℕ → Bool) (text : List ℕ) → length (before_first p text) ≡ position_or_len p text
cut_at p text = length-take-le (position_or_len p text) text (prefix_len-le-length (λ b. not (p b)) text)

pub some_hash : (front : List ℕ) → (length (before_first is_hash front) ≡ length front → ⊥) → list_any is_hash front ≡ true
some_hash front cut = grind (arith, common_steps, cases_lt, any_at_first, cut_at, prefix_len-le-length)

pub no_hash : (front : List ℕ) → length (before_first is_hash front) ≡ length front → list_any is_hash front ≡ false
no_hash front whole = none_at_length is_hash front (omega (arith, cut_at is_hash front, whole))

pub value_with_point :
    (value behind : List ℕ) → length (before_first is_point value) < length value →
    value_weight value behind ≡ number_weight (before_first is_point value) (after_first is_point value)
value_with_point value behind cut = rw (any_at_first is_point value (omega (arith, cut_at is_point value, cut))) refl

-- no more ranges than bytes, and one
length-written_items : (items : List (List ℕ)) → length (written_items items) ≤ length items
length-written_items [] = omega arith
length-written_items (item ∷ items) = grind (arith, common_steps, length-written_items items)

pub few_written : (header : List ℕ) → length (written_elements header) ≤ length header + 1
few_written header = omega (arith, length-written_items (items header), length-slice_split is_comma header, count_by-le-length is_comma header)

-- ---- a parameter without a "=", and one with it

pub no_equals : (parameter : List ℕ) → position is_equals parameter ≡ None → is_q_parameter parameter ≡ false
no_equals parameter none = grind (arith, common_steps, nat_tests, none_at_length is_equals parameter, prefix_len-le-length)

pub some_equals :
    (parameter : List ℕ) (place : ℕ) → position is_equals parameter ≡ Some place →
    (place < length parameter) × (place ≡ position_or_len is_equals parameter) × (is_q_parameter parameter ≡ is_q_name (trimmed (take place parameter)))
some_equals parameter place some = grind (arith, common_steps, nat_tests, any_at_first)

pub nothing_written : written_elements [] ≡ []
unfolding written
nothing_written = refl
