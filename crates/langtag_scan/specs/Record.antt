-- The record of a normal tag: its subtags, sorted into the parts that RFC 5646 section 2.1 names.
use Rattle.std.specs.Prelude.{◌≡◌, ℕ, ◌≤◌, ◌⊎◌, IsTrue, List, [], ◌∷◌, ◌++◌, length, Option, Some, None, IfSome, flat_map}
use Rattle.langtag_scan.specs.Prelude.{AllByRecursion}
use Rattle.langtag_scan.specs.Class.{is_primary, is_extended, is_script, is_region, is_variant, is_extension_subtag, is_private_subtag, is_mark, is_singleton}
use Rattle.langtag_scan.specs.Subtags.{join}

-- extension: a singleton and the subtags after it (section 2.2.6)
pub record Extension : Type 0 where
  pub singleton : ℕ
  pub subtags : List (List ℕ)

-- privateuse: a mark, `x` or `X`, and the subtags after it (section 2.2.7)
pub record PrivateUse : Type 0 where
  pub mark : ℕ
  pub subtags : List (List ℕ)

-- langtag: the parts of a normal tag, in the order in which they are written
pub record Record : Type 0 where
  pub primary : List ℕ
  pub extended : List (List ℕ)
  pub script : Option (List ℕ)
  pub region : Option (List ℕ)
  pub variants : List (List ℕ)
  pub extensions : List Extension
  pub private_use : Option PrivateUse

-- extension = singleton 1*("-" (2*8alphanum))
pub record IsWellFormedExtension (e : Extension) : Type 0 where
  pub singleton : IsTrue (is_singleton e.singleton)
  pub some : 1 ≤ length e.subtags
  pub subtags : AllByRecursion (λ s. IsTrue (is_extension_subtag s)) e.subtags

-- privateuse = "x" 1*("-" (1*8alphanum))
pub record IsWellFormedPrivateUse (p : PrivateUse) : Type 0 where
  pub mark : IsTrue (is_mark p.mark)
  pub some : 1 ≤ length p.subtags
  pub subtags : AllByRecursion (λ s. IsTrue (is_private_subtag s)) p.subtags

-- each subtag has the class that its part requires; there are at most three extended subtags, and none if the primary
-- subtag has four letters or more
pub record IsWellFormed (r : Record) : Type 0 where
  pub primary : IsTrue (is_primary r.primary)
  pub extended : AllByRecursion (λ s. IsTrue (is_extended s)) r.extended
  pub few : length r.extended ≤ 3
  pub short : (length r.primary ≤ 3) ⊎ (r.extended ≡ [])
  pub script : IfSome r.script (λ s. IsTrue (is_script s))
  pub region : IfSome r.region (λ s. IsTrue (is_region s))
  pub variants : AllByRecursion (λ s. IsTrue (is_variant s)) r.variants
  pub extensions : AllByRecursion IsWellFormedExtension r.extensions
  pub private_use : IfSome r.private_use IsWellFormedPrivateUse

-- the subtags of each part, in order
abbrev pub extension_flat : Extension → List (List ℕ)
extension_flat e = (e.singleton ∷ []) ∷ e.subtags

abbrev pub private_use_flat : PrivateUse → List (List ℕ)
private_use_flat p = (p.mark ∷ []) ∷ p.subtags

abbrev pub one_flat : Option (List ℕ) → List (List ℕ)
one_flat None = []
one_flat (Some s) = s ∷ []

abbrev pub private_part_flat : Option PrivateUse → List (List ℕ)
private_part_flat None = []
private_part_flat (Some p) = private_use_flat p

-- all subtags of a record, in order
abbrev pub flat : Record → List (List ℕ)
flat r =
    r.primary
    ∷ (r.extended ++ (one_flat r.script ++ (one_flat r.region ++ (r.variants
    ++ (flat_map extension_flat r.extensions ++ private_part_flat r.private_use)))))

-- the text that a record spells: all its subtags, joined by hyphens
abbrev pub spell : Record → List ℕ
spell r = join (flat r)

-- a well-formed record spells the text
abbrev pub Spells : Record → List ℕ → Type 0
Spells r text = IsWellFormed r × (spell r ≡ text)

-- P holds for each record that spells the text. A normal tag has exactly one record; for any other text there is no
-- record, and the statement is trivially true
abbrev pub EachRecord : List ℕ → (Record → Type 0) → Type 0
EachRecord text P = (r : Record) → Spells r text → P r
