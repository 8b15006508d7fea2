-- How a header is read leniently: every range that can be recognised counts, and nothing is an error.
use Rattle.std.specs.Prelude.{◌≡◌, ℕ, ◌+◌, ◌-◌, ◌*◌, ◌==◌, Bool, ◌&&◌, ◌||◌, false, if◌then◌else◌, List, [], ◌∷◌, Option, Some, None, map, length, nat_lt, slice_index_or}
use Rattle.langtag_scan.specs.Prelude.{list_all, list_any, slice_split, before_first, after_first, cons_option}
use Rattle.langtag_scan.specs.Grammar.{Alike, fold_text, are_digits}
use Rattle.langtag_range.specs.Element.{Element, is_semicolon, range_of, trimmed, items}
use Rattle.langtag_range.specs.Locale.{locale_place}
use Rattle.langtag_range.specs.Range.{is_basic_range}
use Rattle.langtag_range.specs.Weight.{is_q}
use Rattle.langtag_range.specs.declared.wanted.WantedRange.{WantedRange}
use Rattle.langtag_range.specs.declared.wanted.WantedRanges.{WantedRanges}

-- ---- the range of an item

-- a byte of a range, in which "_" is read as "-", as in de_CH
abbrev pub hyphened_byte : ℕ → ℕ
hyphened_byte b = if b == 95 then 45 else b

-- whether a byte is "-" or "_"
abbrev pub is_separator : ℕ → Bool
is_separator b = (b == 45) || (b == 95)

-- the text with each "_" read as "-"
abbrev pub hyphened : List ℕ → List ℕ
hyphened text = map hyphened_byte text

-- the part of an item that is its range: the text before the first ";", without white space around it, shortened to the
-- language and the territory if it is a locale name
abbrev pub wanted_text : List ℕ → List ℕ
wanted_text item = locale_place (range_of item)

-- ---- the weight of an item, in thousandths

-- "."
abbrev pub is_point : ℕ → Bool
is_point b = b == 46

-- "0"
abbrev pub is_zero : ℕ → Bool
is_zero b = b == 48

-- the digit of a fraction at an index, or 0 after its end
abbrev pub digit_of : List ℕ → ℕ → ℕ
digit_of fraction index = slice_index_or fraction index 48 - 48

-- whether the texts before and after a decimal mark make up a number: both have only digits, and at least one of them
-- has a digit, as in 1, 0.25, .5 and 1.
abbrev pub are_number : List ℕ → List ℕ → Bool
are_number whole fraction = are_digits whole && are_digits fraction && nat_lt 0 (length whole + length fraction)

-- the value of a number in thousandths: a number above 1 counts as 1, and only three decimal places count
abbrev pub at_most_one : List ℕ → List ℕ → ℕ
at_most_one whole fraction = if list_all is_zero whole then 100 * digit_of fraction 0 + 10 * digit_of fraction 1 + digit_of fraction 2 else 1000

-- the weight for the texts before and after a decimal mark; it is 1 if they are not a number
abbrev pub number_weight : List ℕ → List ℕ → ℕ
number_weight whole fraction = if are_number whole fraction then at_most_one whole fraction else 1000

-- the weight for the text of a value; if the value has no point, its fraction is `behind`, which has the digits after
-- the next comma
abbrev pub value_weight : List ℕ → List ℕ → ℕ
value_weight text behind = number_weight (before_first is_point text) (if list_any is_point text then after_first is_point text else behind)

-- "="
abbrev pub is_equals : ℕ → Bool
is_equals b = b == 61

-- whether a name is q, in either case
abbrev pub is_q_name : List ℕ → Bool
is_q_name [] = false
is_q_name (b ∷ []) = is_q b
is_q_name (b ∷ c ∷ text) = false

-- whether a parameter has a value and the name q
abbrev pub is_q_parameter : List ℕ → Bool
is_q_parameter parameter = list_any is_equals parameter && is_q_name (trimmed (before_first is_equals parameter))

-- the weight that the first parameter named q gives, or 1 if there is none
abbrev pub wanted_weight : List (List ℕ) → List ℕ → ℕ
wanted_weight [] behind = 1000
wanted_weight (parameter ∷ parameters) behind =
    if is_q_parameter parameter then value_weight (trimmed (after_first is_equals parameter)) behind else wanted_weight parameters behind

-- the parameters of an item: the texts between its semicolons, and the text after the last semicolon
abbrev pub parameters : List ℕ → List (List ℕ)
parameters item = slice_split is_semicolon (after_first is_semicolon item)

-- ---- the elements

-- the element of an item, with its range as it is written, or none if the part before its ";" is not a basic range, where
-- "_" is read as "-"
unfoldable pub written : List ℕ → List ℕ → Option Element
written item behind =
    if is_basic_range (hyphened (wanted_text item)) then Some (record { range = wanted_text item; weight = wanted_weight (parameters item) behind })
    else None

-- the next item if it has only digits, since it is then the fraction of a number with a decimal comma, as in
-- "fr;q=0,8"; otherwise the empty text
abbrev pub digits_behind : List (List ℕ) → List ℕ
digits_behind [] = []
digits_behind (item ∷ items) = if are_digits item then item else []

-- the elements of the items, in order
abbrev pub written_items : List (List ℕ) → List Element
written_items [] = []
written_items (item ∷ items) = cons_option (written item (digits_behind items)) (written_items items)

-- the elements of a header as they are written, including elements of weight 0
abbrev pub written_elements : List ℕ → List Element
written_elements header = written_items (items header)

-- the element with each "_" in its range read as "-"
abbrev pub hyphened_element : Element → Element
hyphened_element element = record { range = hyphened element.range; weight = element.weight }

-- the elements of a header as they are read
abbrev pub wanted_elements : List ℕ → List Element
wanted_elements header = map hyphened_element (written_elements header)

-- ---- the case of letters

-- the element with its range in lowercase
abbrev pub folded : Element → Element
folded element = record { range = fold_text element.range; weight = element.weight }

-- every header that equals this one, ignoring case, has elements that equal these, ignoring case
abbrev pub ElementsIgnoreCase : List ℕ → List Element → Type 0
ElementsIgnoreCase header elements = (other : List ℕ) → Alike header other → map folded (wanted_elements other) ≡ map folded elements

-- ---- the values of the code

-- the element that a range represents: its bytes and its weight
abbrev pub written_element : WantedRange → Element
written_element found = record { range = found.bytes.now; weight = found.weight }

-- the elements that the iterator will still return
abbrev pub written_left : WantedRanges → List Element
written_left walk = written_elements walk.rest.now
