-- Laws of the maximal and minimal forms of a tag (UTS #35, part 1, section 'Likely Subtags'). They ignore case, since a
-- subtag that is removed and added again has the case of the data: `en-LATN-US` becomes `en`, which becomes
-- `en-Latn-US`.
use Rattle.std.specs.Prelude.{◌≡◌, ◌↔◌, ℕ, List}
use Rattle.langtag_scan.specs.Grammar.{Alike, EachRecord}
use Rattle.langtag_likely.specs.Maximal.{IsMaximalForm, IsMinimalForm}

-- the maximal form of the minimal form of `old` is its maximal form `new`, ignoring case
abbrev pub UndoesMinimal : List ℕ → List ℕ → Type 0
UndoesMinimal old new = (minimal form : List ℕ) → IsMinimalForm old minimal → IsMaximalForm minimal form → Alike new form

-- the minimal form of the maximal form of `old` is its minimal form `new`
abbrev pub UndoesMaximal : List ℕ → List ℕ → Type 0
UndoesMaximal old new = (maximal : List ℕ) → IsMaximalForm old maximal → IsMinimalForm maximal new

-- another text and `old` have the same minimal form if and only if they have the same maximal form, both ignoring case
abbrev pub TellsAsMaximal : List ℕ → List ℕ → Type 0
TellsAsMaximal old new =
    (other minimal maximal maximal_other : List ℕ) → IsMinimalForm other minimal → IsMaximalForm old maximal → IsMaximalForm other maximal_other →
    Alike new minimal ↔ Alike maximal maximal_other

-- extended subtags, variants, extensions and private use stay the same, byte for byte
abbrev pub KeepsOthers : List ℕ → List ℕ → Type 0
KeepsOthers old new =
    EachRecord old (λ r. EachRecord new (λ q.
    (q.extended ≡ r.extended) × (q.variants ≡ r.variants) × (q.extensions ≡ r.extensions) × (q.private_use ≡ r.private_use)))
