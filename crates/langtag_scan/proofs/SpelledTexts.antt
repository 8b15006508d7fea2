-- A normal text: its one record, the offsets where its parts end, and what a fact of which only the truth is known
-- says of them.
use Rattle.langtag_scan.proofs.Prelude.{◌≡◌, ℕ, List, length, refl, sym, ◌∙◌, arith, IsAscii, ∥∥₁_elim, props, common_steps}
use Rattle.std.proofs.Math.Logic.{∥∥₁_prop}
use mathlib.Core.Bool.{Bool-set}
use Rattle.langtag_scan.specs.Grammar.{ends_of, HasEnds, AreInOrder, EachRecord, flat, subtags, IsNormal}
use Rattle.langtag_scan.specs.declared.ends.Ends.{Ends}
use Rattle.langtag_scan.proofs.Ascii.{IsAscii-normal}
use Rattle.langtag_scan.proofs.PartOffsets.{ends_in_order}
use Rattle.langtag_scan.proofs.NormalTexts.{flat_subtags, spelled_once, normal_from_runs, runs_from_normal}
use Rattle.langtag_scan.proofs.SubtagLists.{length-subtags, subtags-joined}

-- a text that a record spells is normal
pub normal_spelled : (text : List ℕ) → EachRecord text (λ r. IsNormal text)
unfolding IsNormal
normal_spelled text r spells = (r, spells)

pub normal_from_ends : (text : List ℕ) (ends : Ends) → HasEnds text ends → IsNormal text
unfolding HasEnds
normal_from_ends text ends (r, spells, at) = normal_spelled text r spells

-- there is one record, so each record has these ends
pub ends_each : (text : List ℕ) (ends : Ends) → HasEnds text ends → EachRecord text (λ r. ends ≡ ends_of r)
unfolding HasEnds
ends_each text ends (q, spelled, at) r spells = grind (arith, common_steps, spelled_once q r spelled.0 spells.0 (spelled.1 ∙ sym spells.1))

-- ---- what is merely so is at hand

-- a test decides whether a text is normal
pub normal_had : (text : List ℕ) → ∥ IsNormal text ∥₁ → IsNormal text
normal_had text merely =
    normal_from_runs text (∥∥₁_elim merely (Bool-set _ _) (runs_from_normal text))

-- and its ends are those of its one record
pub ends_had : (text : List ℕ) (ends : Ends) → ∥ HasEnds text ends ∥₁ → HasEnds text ends
unfolding HasEnds IsNormal
ends_had text ends merely =
    let normal = normal_had text (∥∥₁_elim merely ∥∥₁_prop (λ h. ∣ normal_from_ends text ends h ∣₁)) in
    (normal.0, normal.1, ∥∥₁_elim merely (hlevel props) (λ h. ends_each text ends h normal.0 normal.1))

-- ---- the subtags of the text

-- are those of its record
pub subtags-spelled : (text : List ℕ) → EachRecord text (λ r. subtags text ≡ flat r)
subtags-spelled text r spells = grind (arith, common_steps, subtags-joined (flat r) (flat_subtags r spells.0), flat_subtags r spells.0)

-- and no more of them than `count` can answer
pub ruleset tag_subtags = (subtags-spelled, length-subtags)

-- ---- the offsets of the parts in the text

pub ends_whole : (text : List ℕ) (ends : Ends) → HasEnds text ends → ends.whole ≡ length text
unfolding HasEnds
ends_whole text ends (r, spells, at) = rw (at, ← spells.1) refl

pub ends_ordered : (text : List ℕ) (ends : Ends) → HasEnds text ends → AreInOrder ends
unfolding HasEnds
ends_ordered text ends (r, spells, at) = rw at (ends_in_order r)

-- what a value that keeps the ends of its text knows of both
pub record AreOffsetsIn (text : List ℕ) (ends : Ends) : Type 0 where
  pub normal : IsNormal text
  pub order : AreInOrder ends
  pub whole : ends.whole ≡ length text
  pub ascii : IsAscii text

pub offsets_kept : (text : List ℕ) (ends : Ends) → ∥ HasEnds text ends ∥₁ → AreOffsetsIn text ends
offsets_kept text ends merely =
    grind (arith, common_steps, ends_had text ends merely, normal_from_ends text ends, ends_ordered text ends, ends_whole text ends, IsAscii-normal text)
