-- The kinds of language tags (RFC 5646 section 2.1).
use Rattle.std.specs.Prelude.{◌↔◌, ℕ, List}
use Rattle.langtag_scan.specs.Grammar.{IsNormal, IsPrivate, IsIrregularAt, IsIrregular}
use Rattle.langtag.specs.declared.kind.Kind.{Kind}
use Rattle.langtag.specs.declared.kind.Kind.TheVariants.{Normal, PrivateUse, Grandfathered}

-- the text is a tag of this kind; the regular grandfathered tags are normal
abbrev pub IsOfKind : List ℕ → Kind → Type 0
IsOfKind text Normal = IsNormal text
IsOfKind text PrivateUse = IsPrivate text
IsOfKind text Grandfathered = IsIrregular text

-- two texts have the same kind: both are normal or neither is, both are private use or neither is, and both are the
-- same irregular tag or neither is irregular
pub record AreOfOneKind (t u : List ℕ) : Type 0 where
  pub normal : IsNormal t ↔ IsNormal u
  pub private_use : IsPrivate t ↔ IsPrivate u
  pub irregular : (k : ℕ) → IsIrregularAt k t ↔ IsIrregularAt k u
