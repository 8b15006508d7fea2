-- What an accessor of a part returns for a tag of any kind (RFC 5646 section 2.1).
use Rattle.std.specs.Prelude.{◌≡◌, ℕ, List}
use Rattle.langtag_scan.specs.Grammar.{Record, EachRecord, IsNormal}

-- for a normal tag, `answer` is the part of the tag's record that `part_of` names; for a tag of another kind, `answer`
-- is the value `none`
pub record PartOf {A : Type 0} (text : List ℕ) (part_of : Record → A) (none : A) (answer : A) : Type 0 where
  pub part : EachRecord text (λ r. answer ≡ part_of r)
  pub absent : (IsNormal text → ⊥) → answer ≡ none
