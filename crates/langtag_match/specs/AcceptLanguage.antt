-- The Accept-Language header (RFC 9110 section 12.5.4): #( language-range [ weight ] ).
use Rattle.std.specs.Prelude.{◌≡◌, ℕ, ◌+◌, ◌≤◌, Bool, false, ◌||◌, if◌then◌else◌, IsTrue, List, ◌++◌, Some, is_some, filter, map, nat_lt, length, count_by, take, slice_get, slice_range, filter_map}
use Rattle.langtag_scan.specs.Prelude.{list_all, Bor}
use Rattle.langtag_range.specs.Definitions.{Element, is_ows, is_comma, items, element, range_of, trimmed, is_basic_range}
use Rattle.langtag_match.specs.Stable.{IsStableOrder}
use Rattle.langtag_match.specs.Text.{weighted_range_text}
use Rattle.langtag_match.specs.declared.weighted_range.WeightedRange.{WeightedRange}
use Rattle.langtag_match.specs.declared.accept_language_error.ElementPart.{ElementPart}
use Rattle.langtag_match.specs.declared.accept_language_error.ElementPart.TheVariants.{Range, Weight}
use Rattle.langtag_match.specs.declared.accept_language_error.AcceptLanguageError.{AcceptLanguageError}
use Rattle.langtag_match.specs.declared.accept_language_error.AcceptLanguageError.TheVariants.{BadElement, Memory}

-- the malformed part of an item that is not an element
unfoldable pub bad_part : List ℕ → ElementPart
bad_part item = if is_basic_range (range_of item) then Weight else Range

-- this part of an item, such as its range, begins at this offset in the item, and only OWS is before it
pub record IsRangePlace (item range : List ℕ) (start : ℕ) : Type 0 where
  pub within : start + length range ≤ length item
  pub there : slice_range item start (start + length range) ≡ range
  pub space : IsTrue (is_ows (take start item))

-- the elements of the items, in order; an item that is empty (section 5.6.1.2) or malformed gives no element
abbrev pub elements : List (List ℕ) → List Element
elements items = filter_map element items

-- whether an item is empty or an element
abbrev pub is_good : List ℕ → Bool
is_good item = is_ows item || is_some (element item)

-- whether each item is empty or an element
abbrev pub are_good : List (List ℕ) → Bool
are_good items = list_all is_good items

-- the elements that are acceptable: elements of weight 0 are not (section 12.4.2)
abbrev pub acceptable : List Element → List Element
acceptable elements = filter (λ element. nat_lt 0 element.weight) elements

abbrev pub weight_in : Element → ℕ
weight_in element = element.weight

-- a weight may come before another weight that is equal or smaller
abbrev pub FallsTo : ℕ → ℕ → Type 0
FallsTo weight later = later ≤ weight

-- `ordered` has the elements in the order of descending weight; elements of equal weight keep their order
abbrev pub IsByWeight : List Element → List Element → Type 0
IsByWeight elements ordered = IsStableOrder weight_in FallsTo elements ordered

-- the element that a weighted range represents
abbrev pub reading : WeightedRange → Element
reading weighted = record { range = weighted_range_text weighted; weight = weighted.weight }

-- the ranges in `ordered` are the acceptable elements of the header, in the order of descending weight
abbrev pub AreElements : List ℕ → List WeightedRange → Type 0
AreElements header ordered = IsByWeight (acceptable (elements (items header))) (map reading ordered)

-- every item of the header is empty or an element, and the ranges in `ordered` are the acceptable elements of the
-- header, in the order of descending weight
abbrev pub AreAccepted : List ℕ → List WeightedRange → Type 0
AreAccepted header ordered = IsTrue (are_good (items header)) × AreElements header ordered

-- the texts of the ranges
abbrev pub range_texts : List WeightedRange → List (List ℕ)
range_texts ordered = map weighted_range_text ordered

-- two results for the same header have the same ranges and weights, in the same order
abbrev pub HasOneReading : List ℕ → Type 0
HasOneReading header =
    (first second : List WeightedRange) → AreAccepted header first → AreAccepted header second →
    map reading first ≡ map reading second

-- an item is in the header, with this number of commas and this number of bytes before it
abbrev pub StandsAt : List ℕ → List ℕ → ℕ → ℕ → Type 0
StandsAt header item commas bytes =
    (before : List ℕ) × (after : List ℕ) × (header ≡ before ++ (item ++ after)) ×
    (count_by is_comma before ≡ commas) × (length before ≡ bytes)

-- the item at this index is the first malformed item: it is neither empty nor an element, and no item before it is
-- malformed. At this offset it begins, without the OWS around it
pub record IsFirstBad (header : List ℕ) (index offset : ℕ) (part : ElementPart) : Type 0 where
  pub item : List ℕ
  pub there : slice_get (items header) index ≡ Some item
  pub start : ℕ
  pub place : StandsAt header item index start
  pub space : ℕ
  pub begins : IsRangePlace item (trimmed item) space
  pub at : offset ≡ start + space
  pub bad : is_good item ≡ false
  pub which : part ≡ bad_part item
  pub before : IsTrue (are_good (take index (items header)))

-- the error contains the header itself, and the index and offset of its first malformed element
abbrev pub Refuses : Bor (List ℕ) → AcceptLanguageError → Type 0
Refuses header (BadElement given index offset part) = (given ≡ header) × IsFirstBad header.now index offset part
Refuses header (Memory error) = Unit {0}
