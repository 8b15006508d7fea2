-- The numbers that stand for short texts in the tables.
use Rattle.std.specs.Prelude.{ℕ, ◌+◌, ◌*◌, ◌-◌, ◌&&◌, nat_lt, Bool, true, false, List, [], ◌∷◌, fold}
use Rattle.langtag_scan.specs.Grammar.{fold_byte}

-- the position of a letter in the alphabet, which is 1 for `a`
abbrev pub letter : ℕ → ℕ
letter b = fold_byte b - 96

-- the number whose digits in base 26 are the letters of a text
unfoldable pub letter_number : List ℕ → ℕ
letter_number text = fold (λ number b. number * 26 + letter b) 0 text

-- the indices of the true elements of a list, counted from n for the first element
unfoldable pub places : ℕ → List Bool → List ℕ
places n [] = []
places n (true ∷ list) = n ∷ places (n + 1) list
places n (false ∷ list) = places (n + 1) list

-- whether the list rises: each number is greater than the one before it
abbrev pub climbs_from : ℕ → List ℕ → Bool
climbs_from low [] = true
climbs_from low (n ∷ numbers) = nat_lt low n && climbs_from n numbers
