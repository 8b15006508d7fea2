-- The weight of an element, weight = OWS ";" OWS "q=" qvalue (RFC 9110 section 12.4.2).
use Rattle.std.specs.Prelude.{ℕ, ◌+◌, ◌-◌, ◌*◌, ◌/◌, ◌^◌, ◌==◌, Bool, true, false, ◌&&◌, ◌||◌, if◌then◌else◌, List, [], ◌∷◌, Option, Some, None, length, fold, drop}
use Rattle.langtag_scan.specs.Prelude.{is_in_range, list_all}

-- [ "." 0*3DIGIT ], in which no digit is greater than `greatest`
abbrev pub is_fraction : ℕ → List ℕ → Bool
is_fraction greatest [] = true
is_fraction greatest (point ∷ digits) = (point == 46) && is_in_range 0 3 (length digits) && list_all (is_in_range 48 greatest) digits

-- qvalue = ( "0" [ "." 0*3DIGIT ] ) / ( "1" [ "." 0*3("0") ] ) (section 12.4.2)
abbrev pub is_qvalue : List ℕ → Bool
is_qvalue [] = false
is_qvalue (whole ∷ fraction) = ((whole == 48) && is_fraction 57 fraction) || ((whole == 49) && is_fraction 48 fraction)

-- the value of a text of decimal digits
abbrev pub decimal : List ℕ → ℕ
decimal digits = fold (λ number digit. 10 * number + (digit - 48)) 0 digits

-- the value of a qvalue in thousandths: 1000 times the number that all its digits make, divided by 10 ^ k, if there are
-- k digits after the point
abbrev pub thousandths : List ℕ → ℕ
thousandths [] = 0
thousandths (whole ∷ fraction) = let places = drop 1 fraction in 1000 * decimal (whole ∷ places) / 10 ^ length places

-- "q", in either case
abbrev pub is_q : ℕ → Bool
is_q b = (b == 113) || (b == 81)

-- "q=" qvalue, in thousandths
abbrev pub weight : List ℕ → Option ℕ
weight [] = None
weight (name ∷ []) = None
weight (name ∷ equals ∷ qvalue) = if is_q name && (equals == 61) && is_qvalue qvalue then Some (thousandths qvalue) else None
