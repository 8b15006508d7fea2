-- Grandfathered tags and kinds compare and hash by their index in the declaration of their enum. `equality`, `order`
-- and `fed` are what the derived `==`, `cmp` and `hash` compute.
use Rattle.std.specs.Prelude.{◌≡◌, ℕ, ◌==◌, Bool}
use Rattle.langtag_scan.specs.Prelude.{HashWrites, usize, nat_cmp, Ordering}
use Rattle.langtag.specs.contracts.grandfathered.GrandfatheredLangTagHash.TheImpl as tag_hash
use Rattle.langtag.specs.contracts.grandfathered.GrandfatheredLangTagOrd.TheImpl as tag_order
use Rattle.langtag.specs.contracts.grandfathered.GrandfatheredLangTagPartialEq.TheImpl as tag_equality
use Rattle.langtag.specs.contracts.kind.KindHash.TheImpl as kind_hash
use Rattle.langtag.specs.contracts.kind.KindOrd.TheImpl as kind_order
use Rattle.langtag.specs.contracts.kind.KindPartialEq.TheImpl as kind_equality
use Rattle.langtag.specs.declared.kind.Kind.{Kind}
use Rattle.langtag.specs.declared.kind.Kind.TheVariants.{Normal, PrivateUse, Grandfathered}
use Rattle.langtag.specs.Registered.{index_of}

-- the index of a kind in the enum's declaration
abbrev pub index_of_kind : Kind → ℕ
index_of_kind Normal = 0
index_of_kind PrivateUse = 1
index_of_kind Grandfathered = 2

-- values compare by their indices, and feed a hasher their index
pub record CompareAs {K : Type 0}
    (index : K → ℕ) (equality : K → K → Bool) (order : K → K → Ordering) (fed : K → HashWrites) : Type 0 where
  pub equal : (a b : K) → equality a b ≡ (index a == index b)
  pub ordered : (a b : K) → order a b ≡ nat_cmp (index a) (index b)
  pub hashed : (a : K) → fed a ≡ usize (index a)

-- grandfathered tags compare by their order in RFC 5646 section 2.1
abbrev pub TagsCompareByIndex : Type 0
TagsCompareByIndex = CompareAs index_of tag_equality.eq-value.it tag_order.cmp-value.it tag_hash.hash_input-value.it

-- kinds compare by their order in the enum
abbrev pub KindsCompareByIndex : Type 0
KindsCompareByIndex = CompareAs index_of_kind kind_equality.eq-value.it kind_order.cmp-value.it kind_hash.hash_input-value.it
