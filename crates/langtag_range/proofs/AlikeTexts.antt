-- The case of letters changes no mark, no digit and no range in a text; so alike headers have alike elements.
use Rattle.langtag_scan.proofs.Prelude.{◌≡◌, ℕ, ◌+◌, Bool, List, [], ◌∷◌, map, reverse, refl, arith, ◌<◌, eqb, ap, true, cond, Option, None, Some, option_map, sym, ◌∙◌, list_any, slice_split, before_first, after_first, position_or_len, list_all, take-map, drop-map, map-append, reverse-append, length-map, common_steps, nat_tests, eqb_tells, and_parts}
use Rattle.langtag_scan.specs.Grammar.{fold_byte, fold_text, is_private_subtag, are_digits, is_digit, subtags, Classes}
use Rattle.langtag_scan.proofs.CaseLaw.{all-fold, is_letter-fold, length-fold, classes-fold, is_digit-fold, subtags-fold}
use Rattle.langtag_range.specs.Definitions.{from_first, trimmed, Element, is_semicolon, items, is_star, is_basic_range, hyphened, wanted_text, number_weight, value_weight, is_equals, is_q_name, is_q_parameter, wanted_weight, parameters, written, digits_behind, written_items, hyphened_element, wanted_elements, folded, ElementsIgnoreCase, is_hash, place_before, without_mark}
use Rattle.std.proofs.Math.ListN.{get_or-map}

module _ (p : ℕ → Bool) (same : (b : ℕ) → p (fold_byte b) ≡ p b) where
  pub list_any-fold : (text : List ℕ) → list_any p (fold_text text) ≡ list_any p text
  list_any-fold [] = refl
  list_any-fold (b ∷ text) = rw (same b, list_any-fold text) refl

  position_or_len-fold : (text : List ℕ) → position_or_len p (fold_text text) ≡ position_or_len p text
  position_or_len-fold [] = refl
  position_or_len-fold (b ∷ text) = rw (same b, position_or_len-fold text) refl

  pub before_first-fold : (text : List ℕ) → before_first p (fold_text text) ≡ fold_text (before_first p text)
  before_first-fold text = rw (position_or_len-fold text) (take-map fold_byte (position_or_len p text) text)

  pub after_first-fold : (text : List ℕ) → after_first p (fold_text text) ≡ fold_text (after_first p text)
  after_first-fold text = rw (position_or_len-fold text) (drop-map fold_byte (position_or_len p text + 1) text)

  pub slice_split-fold : (text : List ℕ) → slice_split p (fold_text text) ≡ map fold_text (slice_split p text)
  slice_split-fold [] = refl
  slice_split-fold (b ∷ text) = grind (arith, common_steps, slice_split-fold text)

pub reverse-fold : (text : List ℕ) → reverse (fold_text text) ≡ fold_text (reverse text)
reverse-fold [] = refl
reverse-fold (b ∷ text) = grind (arith, common_steps, reverse-append, map-append, reverse-fold text)

-- ---- bytes

-- a byte that stands before all letters
pub mark-fold : (mark : ℕ) → mark < 65 → (b : ℕ) → eqb (fold_byte b) mark ≡ eqb b mark
unfolding fold_byte
mark-fold mark below b = grind (arith, nat_tests)

pub underscore-fold : (b : ℕ) → eqb (fold_byte b) 95 ≡ eqb b 95
unfolding fold_byte
underscore-fold b = grind (arith, nat_tests)

-- ---- texts

pub hyphened-fold : (text : List ℕ) → hyphened (fold_text text) ≡ fold_text (hyphened text)
unfolding fold_byte
hyphened-fold [] = refl
hyphened-fold (b ∷ text) = grind (arith, common_steps, eqb_tells b 95, underscore-fold b, hyphened-fold text)

from_first-fold : (text : List ℕ) → from_first (fold_text text) ≡ fold_text (from_first text)
from_first-fold [] = refl
from_first-fold (b ∷ text) = grind (arith, common_steps, mark-fold 32 (omega arith) b, mark-fold 9 (omega arith) b, from_first-fold text)

pub trimmed-fold : (text : List ℕ) → trimmed (fold_text text) ≡ fold_text (trimmed text)
trimmed-fold text = grind (arith, common_steps, from_first-fold, reverse-fold)

-- ---- ranges

pub is_star-fold : (range : List ℕ) → is_star (fold_text range) ≡ is_star range
is_star-fold [] = refl
is_star-fold (b ∷ []) = rw (mark-fold 42 (omega arith) b) refl
is_star-fold (b ∷ c ∷ range) = rw (mark-fold 42 (omega arith) b) refl

are_private-fold : (subtags : List (List ℕ)) → list_all is_private_subtag (map fold_text subtags) ≡ list_all is_private_subtag subtags
are_private-fold [] = refl
are_private-fold (subtag ∷ subtags) = rw (ap (λ (c : Classes). c.private_subtag) (classes-fold subtag), are_private-fold subtags) refl

pub is_basic_range-fold : (text : List ℕ) → is_basic_range (fold_text text) ≡ is_basic_range text
is_basic_range-fold text =
    grind (arith, common_steps, is_star-fold text, subtags-fold text, length-fold, all-fold, is_letter-fold, are_private-fold)

-- ---- where an item is cut

without_mark-fold : (text : List ℕ) → without_mark (fold_text text) ≡ fold_text (without_mark text)
unfolding fold_byte
without_mark-fold text = grind (arith, common_steps, length-map, get_or-map, underscore-fold, take-map)

place_before-fold : (front : List ℕ) → place_before (fold_text front) ≡ fold_text (place_before front)
place_before-fold front = grind (arith, nat_tests, list_any-fold is_hash, mark-fold 35, before_first-fold is_hash, without_mark-fold)

-- what is to be the range of an item
wanted_text-fold : (item : List ℕ) → wanted_text (fold_text item) ≡ fold_text (wanted_text item)
wanted_text-fold item = grind (arith, common_steps, before_first-fold, mark-fold, trimmed-fold, place_before-fold)

parameters-fold : (item : List ℕ) → parameters (fold_text item) ≡ map fold_text (parameters item)
parameters-fold item = grind (arith, nat_tests, after_first-fold is_semicolon, mark-fold 59, slice_split-fold is_semicolon)

-- ---- the weight that a value says: a number has no letters

digits_stay : (text : List ℕ) → are_digits text ≡ true → fold_text text ≡ text
unfolding fold_byte is_digit
digits_stay [] digits = refl
digits_stay (b ∷ text) digits = grind (arith, common_steps, nat_tests, and_parts (is_digit b) (are_digits text) digits, digits_stay text)

number_weight-fold : (whole fraction : List ℕ) → number_weight (fold_text whole) (fold_text fraction) ≡ number_weight whole fraction
number_weight-fold whole fraction = grind (arith, common_steps, digits_stay whole, digits_stay fraction, all-fold is_digit is_digit-fold whole, all-fold is_digit is_digit-fold fraction)

value_weight-fold : (value behind : List ℕ) → value_weight (fold_text value) (fold_text behind) ≡ value_weight value behind
value_weight-fold value behind = grind (arith, common_steps, list_any-fold, mark-fold, before_first-fold, after_first-fold, number_weight-fold)

-- ---- parameters

is_q_name-fold : (name : List ℕ) → is_q_name (fold_text name) ≡ is_q_name name
unfolding fold_byte
is_q_name-fold name = grind (arith, common_steps, nat_tests)

is_q_parameter-fold : (parameter : List ℕ) → is_q_parameter (fold_text parameter) ≡ is_q_parameter parameter
is_q_parameter-fold parameter = grind (arith, nat_tests, list_any-fold is_equals, mark-fold 61, before_first-fold is_equals, trimmed-fold, is_q_name-fold)

wanted_weight-fold : (parameters : List (List ℕ)) (behind : List ℕ) → wanted_weight (map fold_text parameters) (fold_text behind) ≡ wanted_weight parameters behind
wanted_weight-fold [] behind = refl
wanted_weight-fold (parameter ∷ parameters) behind =
    grind (arith, common_steps, is_q_parameter-fold, after_first-fold, mark-fold, trimmed-fold, value_weight-fold, wanted_weight-fold parameters behind)

-- ---- elements

-- the element of a range as it is written, and a weight: none where the range is none
abbrev element_of : List ℕ → ℕ → Option Element
element_of range weight = cond (is_basic_range (hyphened range)) (Some (record { range = range; weight = weight })) None

element_of-fold : (range : List ℕ) (weight : ℕ) → element_of (fold_text range) weight ≡ option_map folded (element_of range weight)
element_of-fold range weight = grind (arith, common_steps, hyphened-fold range, is_basic_range-fold (hyphened range))

written-fold : (item behind : List ℕ) → written (fold_text item) (fold_text behind) ≡ option_map folded (written item behind)
unfolding written
written-fold item behind = grind (arith, common_steps, wanted_text-fold, parameters-fold, wanted_weight-fold, element_of-fold)

written_items-fold : (items : List (List ℕ)) → written_items (map fold_text items) ≡ map folded (written_items items)
written_items-fold [] = refl
written_items-fold (item ∷ items) = grind (arith, common_steps, written-fold item (digits_behind items), written_items-fold items, all-fold is_digit is_digit-fold)

hyphened_elements-fold : (elements : List Element) → map hyphened_element (map folded elements) ≡ map folded (map hyphened_element elements)
hyphened_elements-fold [] = refl
hyphened_elements-fold (element ∷ elements) = grind (arith, common_steps, hyphened-fold element.range, hyphened_elements-fold elements)

wanted_elements-fold : (header : List ℕ) → wanted_elements (fold_text header) ≡ map folded (wanted_elements header)
wanted_elements-fold header = grind (arith, common_steps, slice_split-fold, mark-fold, written_items-fold, hyphened_elements-fold)

pub alike_headers : (header : List ℕ) → ElementsIgnoreCase header (wanted_elements header)
alike_headers header other alike = sym (wanted_elements-fold other) ∙ ap wanted_elements (sym alike) ∙ wanted_elements-fold header
