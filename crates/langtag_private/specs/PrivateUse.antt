-- The rule `privateuse` (RFC 5646 section 2.1): which texts are a private use part, and which subtags such a part has
-- after its mark.
use Rattle.std.specs.Prelude.{◌≡◌, ℕ, List}
use Rattle.langtag_scan.specs.Grammar.{PrivateUse, IsWellFormedPrivateUse, private_use_flat, join, IsPrivate}

-- privateuse = "x" 1*("-" (1*8alphanum)): the same rule as for a whole private use tag, so this is the same definition
abbrev pub IsPrivateUse : List ℕ → Type 0
IsPrivateUse text = IsPrivate text

-- for each private use part that spells the text, P holds for the list of its subtags after the mark
abbrev pub EachPrivateUseSpelling : List ℕ → (List (List ℕ) → Type 0) → Type 0
EachPrivateUseSpelling text P = (p : PrivateUse) → IsWellFormedPrivateUse p → join (private_use_flat p) ≡ text → P p.subtags
