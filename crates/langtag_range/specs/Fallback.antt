-- The fallbacks of a language range in a lookup, which removes subtags from its end (RFC 4647 section 3.4).
use Rattle.std.specs.Prelude.{ℕ, ◌-◌, ◌==◌, Bool, not, ◌||◌, List, [], ◌∷◌, ◌++◌, length, map, filter, slice_index_or, if◌then◌else◌}
use Rattle.langtag_scan.specs.Grammar.{is_single}

-- the texts before each hyphen of a text, the longest first
abbrev pub before_hyphens : List ℕ → List (List ℕ)
before_hyphens [] = []
before_hyphens (b ∷ text) = map (λ before. b ∷ before) (before_hyphens text) ++ (if b == 45 then [] ∷ [] else [])

-- whether the last subtag of a text is a single character
abbrev pub ends_in_single : List ℕ → Bool
ends_in_single text = is_single text || (slice_index_or text (length text - 2) 0 == 45)

-- the texts that a lookup tries, in order: the range, and the text before each of its hyphens, except texts that end
-- in a single character. For `zh-Hant-TW` they are `zh-Hant-TW`, `zh-Hant` and `zh`
abbrev pub fallbacks : List ℕ → List (List ℕ)
fallbacks range = range ∷ filter (λ text. not (ends_in_single text)) (before_hyphens range)
