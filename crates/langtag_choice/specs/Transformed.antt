-- Texts that were translated or transcribed, most often by a machine (RFC 6497): their tags have the extension t.
use Rattle.std.specs.Prelude.{ℕ, Bool, false, not, ◌&&◌, ◌||◌, if◌then◌else◌, List, [], ◌∷◌, codes}
use Rattle.langtag_scan.specs.Grammar.{are_alike, subtags}
use Rattle.langtag_range.specs.Definitions.{hyphened}

-- whether the extension t is among some subtags; behind "x", all is private use
abbrev pub has_extension_t : List (List ℕ) → Bool
has_extension_t [] = false
has_extension_t (subtag ∷ others) = not (are_alike (codes "x") subtag) && (are_alike (codes "t") subtag || has_extension_t others)

unfoldable pub is_transformed : List ℕ → Bool
is_transformed text = has_extension_t (subtags (hyphened text))

-- 1 if a tag has the extension t and a range does not ask for it, and otherwise 0
unfoldable pub unasked_transform : List ℕ → List ℕ → ℕ
unasked_transform range tag = if is_transformed tag && not (is_transformed range) then 1 else 0
