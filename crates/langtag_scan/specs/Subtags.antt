-- Subtags and the hyphens between them (RFC 5646 section 2.1).
use Rattle.std.specs.Prelude.{◌≡◌, ℕ, Bool, false, ◌==◌, List, [], ◌∷◌, Option, None, Some, All}
use Rattle.langtag_scan.specs.Prelude.{join_with_byte, slice_split, AllWithin, Bor}

abbrev pub is_hyphen : ℕ → Bool
is_hyphen b = b == 45

-- the subtags in order, with a hyphen between each two
abbrev pub join : List (List ℕ) → List ℕ
join subtags = join_with_byte 45 subtags

-- the segments of a text, which are the texts that its hyphens separate; there is one more segment than there are
-- hyphens
abbrev pub segments : List ℕ → List (List ℕ)
segments text = slice_split is_hyphen text

-- the subtags of a text, which are its segments; the empty text has none
abbrev pub subtags : List ℕ → List (List ℕ)
subtags [] = []
subtags (b ∷ text) = segments (b ∷ text)

-- the segments of the rest of a text, or the empty list if no rest is left
abbrev pub segments_left : Option (Bor (List ℕ)) → List (List ℕ)
segments_left None = []
segments_left (Some text) = segments text.now

-- no byte from the index `low` up to the index `high` is a hyphen
abbrev pub NoHyphenWithin : List ℕ → ℕ → ℕ → Type 0
NoHyphenWithin text low high = AllWithin (λ b. is_hyphen b ≡ false) text low high

-- no byte is a hyphen
abbrev pub IsHyphenFree : List ℕ → Type 0
IsHyphenFree text = All (λ b. is_hyphen b ≡ false) text
