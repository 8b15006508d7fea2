-- Extended filtering (RFC 4647 section 3.3.2).
use Rattle.std.specs.Prelude.{◌≡◌, ℕ, Bool, true, false, not, ◌&&◌, ◌||◌, if◌then◌else◌, IsTrue, List, [], ◌∷◌, ◌++◌, filter}
use Rattle.langtag_scan.specs.Grammar.{list_all, are_alike, subtags, is_single}
use Rattle.langtag_range.specs.Range.{is_star}

-- whether a subtag of a range is "*", or equals a subtag of a tag, ignoring case
abbrev pub matches_subtag : List ℕ → List ℕ → Bool
matches_subtag range subtag = is_star range || are_alike range subtag

abbrev pub have_no_single : List (List ℕ) → Bool
have_no_single subtags = list_all (λ s. not (is_single s)) subtags

-- the subtags in the first list occur in the second list, in the same order. No subtag that is skipped in the second
-- list before the last match has a single byte
abbrev pub StandAmong : List (List ℕ) → List (List ℕ) → Type 0
StandAmong [] subtags = Unit {0}
StandAmong (wanted ∷ more) subtags =
    (left_out : List (List ℕ)) × (found : List ℕ) × (rest : List (List ℕ)) × (subtags ≡ left_out ++ found ∷ rest) ×
    IsTrue (have_no_single left_out) × IsTrue (are_alike wanted found) × StandAmong more rest

-- the subtags that are not "*": after the first subtag of a range, a "*" matches any sequence of subtags
abbrev pub without_stars : List (List ℕ) → List (List ℕ)
without_stars subtags = filter (λ s. not (is_star s)) subtags

-- the first subtag of the range matches the first subtag of the tag, and the other subtags of the range occur among the
-- other subtags of the tag
abbrev pub MatchSubtags : List (List ℕ) → List (List ℕ) → Type 0
MatchSubtags [] tag = ⊥
MatchSubtags (first ∷ others) [] = ⊥
MatchSubtags (first ∷ others) (subtag ∷ subtags) = IsTrue (matches_subtag first subtag) × StandAmong (without_stars others) subtags

-- the subtags of a range match the subtags of a tag
abbrev pub MatchesExtended : List ℕ → List ℕ → Type 0
MatchesExtended range tag = MatchSubtags (subtags range) (subtags tag)

-- `StandAmong` as a Boolean, computed subtag by subtag
abbrev pub stand_among : List (List ℕ) → List (List ℕ) → Bool
stand_among [] subtags = true
stand_among (wanted ∷ more) [] = false
stand_among (wanted ∷ more) (subtag ∷ subtags) =
    if are_alike wanted subtag
    then stand_among more subtags
    else (not (is_single subtag) && stand_among (wanted ∷ more) subtags)

abbrev pub match_subtags : List (List ℕ) → List (List ℕ) → Bool
match_subtags [] tag = false
match_subtags (first ∷ others) [] = false
match_subtags (first ∷ others) (subtag ∷ subtags) = matches_subtag first subtag && stand_among (without_stars others) subtags

-- `MatchesExtended` as a Boolean; the clause `test` of the function `matches_extended` says that both agree
abbrev pub test_extended : List ℕ → List ℕ → Bool
test_extended range tag = match_subtags (subtags range) (subtags tag)
