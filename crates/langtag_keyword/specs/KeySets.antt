-- Sets of keys: a number for each first character, with a bit for each second character. Only contracts of private functions, and
-- the view of an iterator, cite this page.
use Rattle.std.specs.Prelude.{◌≡◌, ℕ, ◌+◌, ◌-◌, ◌*◌, ◌%◌, ◌^◌, Bool, false, ◌==◌, ◌&&◌, not, List, [], ◌∷◌, if◌then◌else◌, bit_or, length, slice_index_or, set}
use Rattle.langtag_scan.specs.Grammar.{IsSubtag, bit_at, list_any, are_alike, fold_byte, is_digit, join}
use Rattle.langtag_keyword.specs.Keywords.{Keyword, before_key}

-- the place of a digit, or of a letter, ignoring case, in alphabetical order
abbrev pub place_of : ℕ → ℕ
place_of b = if is_digit b then b - 48 else fold_byte b - 97 + 10

-- whether a subtag is in the set
abbrev pub has_key : List ℕ → List ℕ → Bool
has_key seconds (first ∷ second ∷ []) = bit_at (slice_index_or seconds (place_of first) 0) (place_of second) == 1
has_key seconds subtag = false

-- the set with one more key, whose bit is set as by `|= 1 << place`
abbrev pub with_key : List ℕ → List ℕ → List ℕ
with_key seconds (first ∷ second ∷ []) = set seconds (place_of first) (bit_or (slice_index_or seconds (place_of first) 0) (1 * 2 ^ place_of second % 2 ^ 64))
with_key seconds subtag = seconds

-- the set has the keys among some subtags
pub record HasKeys (seconds : List ℕ) (before : List (List ℕ)) : Type 0 where
  pub rows : length seconds ≡ 36
  pub same : (key : List ℕ) → IsSubtag key → length key ≡ 2 → has_key seconds key ≡ list_any (are_alike key) before

-- the keywords among subtags, without those whose key is in the set
abbrev pub keywords_beyond : (List ℕ → Bool) → List ℕ → List (List ℕ) → List Keyword
keywords_beyond opens seconds [] = []
keywords_beyond opens seconds (subtag ∷ subtags) =
    let others : List Keyword = keywords_beyond opens (with_key seconds subtag) subtags in
    if opens subtag && not (has_key seconds subtag) then record { key = subtag; value = join (before_key opens subtags) } ∷ others else others
