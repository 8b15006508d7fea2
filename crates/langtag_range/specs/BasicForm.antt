-- The basic range for an extended range (RFC 4647 section 3.2).
use Rattle.std.specs.Prelude.{ℕ, ◌==◌, ◌&&◌, Bool, false, if◌then◌else◌, List, [], ◌∷◌}

-- whether a text begins with "-*"
abbrev pub begins_with_wildcard : List ℕ → Bool
begins_with_wildcard [] = false
begins_with_wildcard (a ∷ []) = false
begins_with_wildcard (a ∷ b ∷ text) = (a == 45) && (b == 42)

-- the basic range for an extended range: each "-*" is left out (section 3.2). A range that begins with "*" equals no
-- tag, so it needs no special case
abbrev pub basic_form : List ℕ → List ℕ
basic_form [] = []
basic_form (a ∷ []) = a ∷ []
basic_form (a ∷ b ∷ text) = if begins_with_wildcard (a ∷ b ∷ text) then basic_form text else a ∷ basic_form (b ∷ text)
