-- How a text is split into extensions: before each subtag of one byte. Only ghost fields, contracts of private
-- functions and langtag_c's walk over extensions cite this page.
use Rattle.std.specs.Prelude.{◌≡◌, ℕ, ◌+◌, ◌<◌, ◌≤◌, Bool, true, IsTrue, ◌==◌, not, List, [], ◌∷◌, length, take, drop, map, slice_index, cond, Option}
use Rattle.langtag_scan.specs.Grammar.{list_all, Bor, join, segments, subtags, segments_left}

-- whether a subtag belongs to the same extension as the subtag before it; a subtag of one byte begins another extension
abbrev pub goes_on : List ℕ → Bool
goes_on subtag = not (length subtag == 1)

-- whether there are no subtags, or the first subtag begins an extension
abbrev pub opens : List (List ℕ) → Bool
opens [] = true
opens (subtag ∷ more) = length subtag == 1

-- the first `len` bytes of a text end at a hyphen or at the end of the text. In these bytes, no subtag after the first
-- has one byte. The subtag that follows these bytes, if any, has one byte
pub record IsFirstExtension (text : List ℕ) (len : ℕ) : Type 0 where
  pub within : len ≤ length text
  pub one : IsTrue (list_all goes_on (drop 1 (segments (take len text))))
  pub hyphen : len < length text → slice_index text len ≡ 45
  pub next : len < length text → IsTrue (opens (segments (drop (len + 1) text)))

-- the groups of subtags, one group for each extension, after one more subtag is put before them. If the first group
-- begins an extension, the subtag becomes a new group. Otherwise it becomes the first subtag of that group
abbrev pub put_first : List ℕ → List (List (List ℕ)) → List (List (List ℕ))
put_first subtag [] = (subtag ∷ []) ∷ []
put_first subtag (group ∷ others) = cond (opens group) ((subtag ∷ []) ∷ group ∷ others) ((subtag ∷ group) ∷ others)

abbrev pub groups : List (List ℕ) → List (List (List ℕ))
groups [] = []
groups (subtag ∷ more) = put_first subtag (groups more)

-- the texts of the groups, one for each extension
abbrev pub group_texts : List (List ℕ) → List (List ℕ)
group_texts texts = map join (groups texts)

abbrev pub extension_texts : List ℕ → List (List ℕ)
extension_texts text = group_texts (subtags text)

-- the texts of the extensions in the rest of a text
abbrev pub texts_left : Option (Bor (List ℕ)) → List (List ℕ)
texts_left rest = group_texts (segments_left rest)
