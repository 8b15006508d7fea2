-- Basic filtering (RFC 4647 section 3.3.1).
use Rattle.std.specs.Prelude.{◌≡◌, ◌⊎◌, ℕ, Bool, true, ◌==◌, ◌&&◌, ◌||◌, IsTrue, List, [], ◌∷◌, ◌++◌, length, take, drop}
use Rattle.langtag_scan.specs.Grammar.{Alike, are_alike}
use Rattle.langtag_range.specs.Range.{is_star}

-- the tag equals the range, or begins with the range and a hyphen, ignoring case
abbrev pub BeginsWithRange : List ℕ → List ℕ → Type 0
BeginsWithRange range tag = Alike range tag ⊎ ((prefix : List ℕ) × (rest : List ℕ) × (tag ≡ prefix ++ 45 ∷ rest) × Alike range prefix)

-- the range is "*", which matches any tag, or the tag equals the range, or the tag begins with the range and a hyphen
abbrev pub MatchesBasic : List ℕ → List ℕ → Type 0
MatchesBasic range tag = IsTrue (is_star range) ⊎ BeginsWithRange range tag

-- whether a text is empty or begins with a hyphen
abbrev pub ends_subtag : List ℕ → Bool
ends_subtag [] = true
ends_subtag (b ∷ rest) = b == 45

-- `MatchesBasic` as a Boolean
abbrev pub test_basic : List ℕ → List ℕ → Bool
test_basic range tag =
    is_star range || (are_alike range (take (length range) tag) && ends_subtag (drop (length range) tag))
