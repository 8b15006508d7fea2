-- Laws of the canonical form of a tag (RFC 5646 section 4.5).
use Rattle.std.specs.Prelude.{◌≡◌, ◌↔◌, ℕ, List, [], None, codes}
use Rattle.langtag_scan.specs.Grammar.{Alike, are_alike, EachRecord}
use Rattle.langtag.specs.Definitions.{repeat}
use Rattle.langtag_canonical.specs.Canonical.{canonical_variants, IsCanonicalForm}
use Rattle.langtag_fields.specs.Valid.{IsValid}

-- `old` has no canonical form other than `new`
abbrev pub IsOnlyCanonicalForm : List ℕ → List ℕ → Type 0
IsOnlyCanonicalForm old new = (form : List ℕ) → IsCanonicalForm old form → form ≡ new

-- if a text equals `old`, ignoring case, then its canonical form is `new`, byte for byte
abbrev pub IsFormInAnyCase : List ℕ → List ℕ → Type 0
IsFormInAnyCase old new = (other form : List ℕ) → Alike old other → IsCanonicalForm other form → form ≡ new

-- no two variants of the text have the same canonical form, unlike `heploc` and `alalc97`
abbrev pub StayApart : List ℕ → Type 0
StayApart text = EachRecord text (λ r. repeat are_alike (canonical_variants r.variants) ≡ None)

-- the canonical form of a valid tag is valid, unless two variants of the tag get the same canonical form
abbrev pub IsValidForm : List ℕ → List ℕ → Type 0
IsValidForm old new = IsValid old → IsValid new ↔ StayApart old

-- the canonical form of a valid tag has no extended language (section 4.5), unless it is the grandfathered tag `zh-min`
abbrev pub HasNoExtlang : List ℕ → List ℕ → Type 0
HasNoExtlang old new = IsValid old → (Alike (codes "zh-min") new → ⊥) → EachRecord new (λ r. r.extended ≡ [])
