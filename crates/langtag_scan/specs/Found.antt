-- What a recogniser finds out about a tag (RFC 5646 section 2.1).
use Rattle.std.specs.Prelude.{◌≡◌, ℕ, Bool, true, false, List, [], ◌∷◌, count_by, Option, Some, None, is_some}
use Rattle.langtag_scan.specs.Tag.{IsPrivate, IsIrregularAt}
use Rattle.langtag_scan.specs.Ends.{HasEnds}
use Rattle.langtag_scan.specs.declared.ends.Ends.{Ends}
use Rattle.langtag_scan.specs.declared.finding.Finding.{Finding}
use Rattle.langtag_scan.specs.declared.finding.Finding.TheVariants.{Normal, PrivateUse, Irregular}
use Rattle.langtag_scan.specs.declared.found.Found.{Found}

-- what was found: a normal tag with the ends of its parts, a private use tag, or an irregular tag with its index in the
-- table
abbrev pub finding : Found → Finding
finding found = found.finding

-- the text is a tag of the kind that was found, with the ends or the index that was found
abbrev pub IsFoundOf : List ℕ → Finding → Type 0
IsFoundOf t (Normal ends) = HasEnds t ends
IsFoundOf t PrivateUse = IsPrivate t
IsFoundOf t (Irregular index) = IsIrregularAt index t

-- a normal tag was found
abbrev pub is_normal : Finding → Bool
is_normal (Normal ends) = true
is_normal PrivateUse = false
is_normal (Irregular index) = false

-- a private use tag was found
abbrev pub is_private_use : Finding → Bool
is_private_use (Normal ends) = false
is_private_use PrivateUse = true
is_private_use (Irregular index) = false

-- the index of the irregular tag that was found, or none
abbrev pub irregular_index : Finding → Option ℕ
irregular_index (Normal ends) = None
irregular_index PrivateUse = None
irregular_index (Irregular index) = Some index

-- the ends of the parts of the normal tag that was found, or none
abbrev pub normal_ends : Finding → Option Ends
normal_ends (Normal ends) = Some ends
normal_ends PrivateUse = None
normal_ends (Irregular index) = None

-- exactly one of the three holds: a normal tag was found, a private use tag was found, or there is the index of an
-- irregular tag. There are ends if and only if a normal tag was found
pub record IsOfOneKind (found : Finding) : Type 0 where
  pub one : count_by (λ holds. holds) (is_normal found ∷ is_private_use found ∷ is_some (irregular_index found) ∷ []) ≡ 1
  pub ends : is_some (normal_ends found) ≡ is_normal found
