-- The items of an Accept-Language header, and the element that an item represents (RFC 9110 section 12.5.4).
use Rattle.std.specs.Prelude.{ℕ, ◌==◌, Bool, ◌||◌, if◌then◌else◌, List, [], ◌∷◌, Option, Some, None, reverse, option_map}
use Rattle.langtag_scan.specs.Prelude.{list_all, list_any, slice_split, before_first, after_first}
use Rattle.langtag_range.specs.Range.{is_basic_range}
use Rattle.langtag_range.specs.Weight.{weight}

-- SP / HTAB
abbrev pub is_space : ℕ → Bool
is_space b = (b == 32) || (b == 9)

-- OWS = *( SP / HTAB ) (section 5.6.3)
abbrev pub is_ows : List ℕ → Bool
is_ows text = list_all is_space text

-- the text without the OWS at its start
abbrev pub from_first : List ℕ → List ℕ
from_first [] = []
from_first (b ∷ text) = if is_space b then from_first text else b ∷ text

-- the text without the OWS at its start and end
abbrev pub trimmed : List ℕ → List ℕ
trimmed text = reverse (from_first (reverse (from_first text)))

-- ";"
abbrev pub is_semicolon : ℕ → Bool
is_semicolon b = b == 59

-- the language-range of an element: the text before its first ";"
abbrev pub range_of : List ℕ → List ℕ
range_of item = trimmed (before_first is_semicolon item)

-- the weight of an element in thousandths, read from the text after its first ";"; it is 1000 if there is no ";"
-- (section 12.4.2)
abbrev pub weight_of : List ℕ → Option ℕ
weight_of item = if list_any is_semicolon item then weight (trimmed (after_first is_semicolon item)) else Some 1000

-- an element, language-range [ weight ]: the text of its range, and its weight in thousandths
pub record Element : Type 0 where
  pub range : List ℕ
  pub weight : ℕ

-- the element that an item of a header represents, or none if the item is malformed; the range of an element is a basic
-- range
unfoldable pub element : List ℕ → Option Element
element item =
    if is_basic_range (range_of item) then option_map (λ thousandths. record { range = range_of item; weight = thousandths }) (weight_of item) else None

-- ","
abbrev pub is_comma : ℕ → Bool
is_comma b = b == 44

-- the items of a list, which are separated by commas
abbrev pub items : List ℕ → List (List ℕ)
items header = slice_split is_comma header
