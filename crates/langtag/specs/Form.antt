-- The text of a tag whose record becomes another record.
use Rattle.std.specs.Prelude.{◌≡◌, ℕ, List}
use Rattle.langtag_scan.specs.Grammar.{Alike, Record, EachRecord, spell, IsNormal}

-- `new` is the text of the changed record if the tag is normal; any other tag stays unchanged
pub record IsForm (form_of : Record → Record) (old new : List ℕ) : Type 0 where
  pub kept : (IsNormal old → ⊥) → new ≡ old
  pub parts : EachRecord old (λ r. new ≡ spell (form_of r))

-- `old` has no form other than `new`
abbrev pub IsOnlyForm : (Record → Record) → List ℕ → List ℕ → Type 0
IsOnlyForm form_of old new = (form : List ℕ) → IsForm form_of old form → form ≡ new

-- if a text equals `old`, ignoring case, then its form equals `new`, ignoring case
abbrev pub IsAlikeForm : (List ℕ → List ℕ → Type 0) → List ℕ → List ℕ → Type 0
IsAlikeForm IsFormOf old new = (other form : List ℕ) → Alike old other → IsFormOf other form → Alike new form
