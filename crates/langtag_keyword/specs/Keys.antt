-- Which subtags are keys of the extension `u` or `t`. Only contracts of private functions, and the view of an iterator,
-- cite this page.
use Rattle.std.specs.Prelude.{ℕ, ◌+◌, Bool, List, [], ◌∷◌, length}
use Rattle.langtag_keyword.specs.declared.keys.Keys.{Keys}
use Rattle.langtag_keyword.specs.declared.keys.Keys.TheVariants.{Unicode, Transform}
use Rattle.langtag_keyword.specs.Form.{transform_value, unicode_value}
use Rattle.langtag_keyword.specs.Keywords.{is_key}
use Rattle.langtag_keyword.specs.Transform.{is_field_key}

-- whether a subtag is a key of the extension
abbrev pub opens_keyword : Keys → List ℕ → Bool
opens_keyword Unicode subtag = is_key subtag
opens_keyword Transform subtag = is_field_key subtag

-- the canonical value of a key
abbrev pub canonical_value_of : Keys → List ℕ → List ℕ → List ℕ
canonical_value_of Unicode key value = unicode_value key value
canonical_value_of Transform key value = transform_value key value

-- the number of bytes that the subtags take, each with a hyphen after it
abbrev pub length_with_hyphens : List (List ℕ) → ℕ
length_with_hyphens [] = 0
length_with_hyphens (subtag ∷ subtags) = length subtag + 1 + length_with_hyphens subtags
