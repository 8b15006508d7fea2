-- The rests of a range and of a text after their common beginning. Only contracts of private functions cite this page.
use Rattle.std.specs.Prelude.{◌≡◌, ℕ, ◌==◌, ◌&&◌, Bool, false, List, [], ◌∷◌, length, if◌then◌else◌}
use Rattle.langtag_scan.specs.Grammar.{fold_byte}
use Rattle.langtag_range.specs.Definitions.{begins_with_wildcard, hyphened}
use Rattle.langtag_cldr.specs.Matching.{base_text}

-- two texts without their common beginning, ignoring case
abbrev pub after_common : List ℕ → List ℕ → List ℕ × List ℕ
after_common [] text = ([], text)
after_common (a ∷ range) [] = (a ∷ range, [])
after_common (a ∷ range) (b ∷ text) = if fold_byte a == fold_byte b then after_common range text else (a ∷ range, b ∷ text)

-- whether a range begins with a text, ignoring case, and no more than extensions and private use follow
abbrev pub begins_with_base : List ℕ → List ℕ → Bool
begins_with_base range text = (length (after_common range text).1 == 0) && (length (base_text (after_common range text).0) == 0)

-- a range does not begin with "-*"
abbrev pub BeginsPlain : List ℕ → Type 0
BeginsPlain range = begins_with_wildcard (hyphened range) ≡ false
