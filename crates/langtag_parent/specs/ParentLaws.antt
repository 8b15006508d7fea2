-- Laws of a tag and its parents (UTS #35, part 1, section 'Parent Locales').
use Rattle.std.specs.Prelude.{◌≡◌, ℕ, zero, suc, ◌⊎◌, List, [], ◌++◌, Option, None, Some, IfSome, MatchOption, if◌then◌else◌}
use Rattle.langtag_scan.specs.Grammar.{Alike, AllByRecursion, EachRecord, Record}
use Rattle.langtag_text.specs.Fields.{Fields}
use Rattle.langtag_cldr.specs.Definitions.{likely_for}
use Rattle.langtag_likely.specs.Marked.{as_read}
use Rattle.langtag_parent.specs.Chain.{IsChain}
use Rattle.langtag_parent.specs.Parent.{fields_of, is_empty, likely_script, parent_of, short}
use Rattle.langtag_parent.specs.ParentLocales.{parent_locales}

-- ---- the chain ends

-- fields, their parent, the parent of this parent, and so on are at most `most`
abbrev pub EndsWithin : ℕ → Fields → Type 0
EndsWithin zero f = ⊥
EndsWithin (suc most) f = (parent : Fields) → parent_of (short f) ≡ Some parent → EndsWithin most parent

-- ---- each member of the chain of a tag

-- what holds of the record of the tag, as it is read, and of the record of each member of its chain but the tag itself
abbrev pub EachMember : (Record → Record → Type 0) → Type 0
EachMember P =
    (tag : List ℕ) (chain : List (List ℕ)) → IsChain tag chain →
    EachRecord tag (λ r. AllByRecursion (λ member. (member ≡ tag) ⊎ EachRecord member (P (as_read r))) chain)

-- ---- one script

-- the script in which a tag is written: its own, or else the likely script of its language in its region
abbrev pub script_of : Fields → Option (List ℕ)
script_of f = if is_empty f.script then likely_script f.language f.region else Some f.script

-- if it is known in which script the second is written, then the first is written in the same script
abbrev pub IsWrittenAs : Fields → Fields → Type 0
IsWrittenAs f g = IfSome (script_of g) (λ script. MatchOption (script_of f) ⊥ (λ own. Alike own script))

-- the same of two tags
abbrev pub IsInOneScript : Record → Record → Type 0
IsInOneScript r q = IsWrittenAs (fields_of r) (fields_of q)

-- ---- nothing is added

-- the language is the same, and there is the same region or none
abbrev pub IsKept : Fields → Fields → Type 0
IsKept f g = (g.language ≡ f.language) × ((g.region ≡ []) ⊎ (g.region ≡ f.region))

-- the second fields have the language of the first, and their region or none, or else those of a parent that CLDR states for
-- fields that come from the first
pub data ComesFrom (f : Fields) : Fields → Type 0 where
  of_fields : (g : Fields) → IsKept f g → ComesFrom f g
  of_parent : (key parent g : Fields) → ComesFrom f key → likely_for parent_locales key ≡ Some parent → IsKept parent g → ComesFrom f g

-- the second record adds nothing to the first but a script, or what a parent has that CLDR states; the last variants of the
-- first may be absent, and so may its extensions with its private use
pub record AddsNothing (r q : Record) : Type 0 where
  pub fields : ComesFrom (fields_of r) (fields_of q)
  pub variants : (last : List (List ℕ)) × (q.variants ++ last ≡ r.variants)
  pub extensions : (q.extensions ≡ []) ⊎ (q.extensions ≡ r.extensions)
  pub private_use : (q.private_use ≡ None) ⊎ (q.private_use ≡ r.private_use)
