-- What the accessors cut out of a normal text is the part of each record that spells it, and meets the rules of the types of parts.
use Rattle.langtag_scan.proofs.Prelude.{drop, ◌≡◌, ℕ, List, [], take, unwrap_or, ap, ◌∙◌, arith, ◌++◌, append_assoc, append-nil, flat_map, Option, Some, IsTrue, IfSome, sym, subst, option_map, common_steps}
use Rattle.langtag_scan.specs.Grammar.{Record, EachRecord, IsWellFormed, spell, PrivateUse, IsWellFormedPrivateUse, Spells, extension_flat, private_part_flat, private_use_flat, IsNormal, IsPrivate, HasEnds, ends_of, to_variants, language_part, variants_part, extensions_part, private_use_part, text_between, is_variant, is_script, is_region, subtags, join}
use Rattle.langtag.specs.Part.{PartOf}
use Rattle.langtag_scan.specs.declared.ends.Ends.{Ends}
use Rattle.langtag_scan.proofs.Laws.{unwrap_or-joined, take-join, language_between, script_between, region_between, variants_between, extensions_between, private_use_between, ends_equal, ends_each, ends_had, offsets_kept, of_variant, each_subtag, subtags-joined}
use Rattle.langtag.specs.Offsets.{PartsStandIn}
use Rattle.langtag.specs.Definitions.{IsLanguage, SpellsLanguage, IsVariants, IsExtensions, base_record}

-- a normal tag has that of its record
pub part_found : {A : Type 0} {text : List ℕ} {part_of : Record → A} {none answer : A} →
    IsNormal text → EachRecord text (λ r. answer ≡ part_of r) → PartOf text part_of none answer
part_found normal found = record { part = found; absent = λ other. absurd (other normal) }

-- ---- what stands in a normal text between two of its ends is the part of each record that spells it

-- each part of a record stands between its offsets in the spelling
pub parts_stand : (r : Record) → PartsStandIn (spell r) r
parts_stand r =
    grind (arith, common_steps, language_between, script_between, region_between, variants_between, unwrap_or-joined, extensions_between, private_use_between)

-- what stands between the ends that are kept, part by part
module _ (text : List ℕ) (ends : Ends) (h : HasEnds text ends) where
  pub language_found : EachRecord text (λ r. take ends.language text ≡ language_part r)
  language_found r spells = rw (ends_each text ends h r spells, ← spells.1) (parts_stand r).language

  pub script_found : EachRecord text (λ r. text_between text ends.language ends.script ≡ r.script)
  script_found r spells = rw (ends_each text ends h r spells, ← spells.1) (parts_stand r).script

  pub region_found : EachRecord text (λ r. text_between text ends.script ends.region ≡ r.region)
  region_found r spells = rw (ends_each text ends h r spells, ← spells.1) (parts_stand r).region

  pub variants_found : EachRecord text (λ r. unwrap_or (text_between text ends.region ends.variants) [] ≡ variants_part r)
  variants_found r spells = rw (ends_each text ends h r spells, ← spells.1) (parts_stand r).variants

  pub extensions_found : EachRecord text (λ r. unwrap_or (text_between text ends.variants ends.extensions) [] ≡ extensions_part r)
  extensions_found r spells = rw (ends_each text ends h r spells, ← spells.1) (parts_stand r).extensions

  pub private_use_found : EachRecord text (λ r. text_between text ends.extensions ends.whole ≡ private_use_part r)
  private_use_found r spells = rw (ends_each text ends h r spells, ← spells.1) (parts_stand r).private_use

-- the variants of a record are the subtags of their part
pub variants_listed : (r : Record) (text : List ℕ) → IsWellFormed r → text ≡ variants_part r → subtags text ≡ r.variants
variants_listed r text well same = ap subtags same ∙ subtags-joined r.variants (each_subtag is_variant of_variant r.variants well.variants)

-- ---- what the accessors cut out of a normal text meets the rules of the types of parts

-- what holds of a part that may be there holds of the one that is
of_some : (P : List ℕ → Type 0) (part : List ℕ) (o : Option (List ℕ)) → Some part ≡ o → IfSome o P → P part
of_some P part o same fact = subst (λ x. IfSome x P) (sym same) fact

private_spelled : (part : List ℕ) (o : Option PrivateUse) → Some part ≡ option_map (λ p. join (private_use_flat p)) o → IfSome o IsWellFormedPrivateUse → IsPrivate part
unfolding IsPrivate
private_spelled part o same fits = grind (arith, common_steps)

module _ (text : List ℕ) (ends : Ends) (h : HasEnds text ends) where
  pub IsLanguage-cut : IsLanguage (take ends.language text)
  unfolding HasEnds
  IsLanguage-cut = grind (arith, common_steps, language_found text ends)

  pub IsVariants-cut : IsVariants (unwrap_or (text_between text ends.region ends.variants) [])
  unfolding HasEnds
  IsVariants-cut = let (r, spells, at) = h in grind (arith, common_steps, variants_found text ends h r spells)

  pub IsExtensions-cut : IsExtensions (unwrap_or (text_between text ends.variants ends.extensions) [])
  unfolding HasEnds
  IsExtensions-cut = grind (arith, common_steps, extensions_found text ends)

  pub is_script-cut : (part : List ℕ) → Some part ≡ text_between text ends.language ends.script → IsTrue (is_script part)
  unfolding HasEnds
  is_script-cut part cut = grind (arith, common_steps, of_some, script_found text ends)

  pub is_region-cut : (part : List ℕ) → Some part ≡ text_between text ends.script ends.region → IsTrue (is_region part)
  unfolding HasEnds
  is_region-cut part cut = grind (arith, common_steps, of_some, region_found text ends)

  pub IsPrivate-cut : (part : List ℕ) → Some part ≡ text_between text ends.extensions ends.whole → IsPrivate part
  unfolding HasEnds
  IsPrivate-cut part cut =
      let (r, spells, at) = h in private_spelled part r.private_use (cut ∙ private_use_found text ends h r spells) spells.0.private_use

-- ---- the tag up to its extensions

-- what precedes the extensions is the spelling of the record without them
base-cut : (r : Record) → take (ends_of r).variants (spell r) ≡ spell (base_record r)
base-cut r = simp append-nil (simp append_assoc at (take-join r.primary (drop 1 (to_variants r)) (flat_map extension_flat r.extensions ++ private_part_flat r.private_use)))

base_well : (r : Record) → IsWellFormed r → IsWellFormed (base_record r)
base_well r well = grind (arith, common_steps)

pub base_found : (text : List ℕ) (ends : Ends) → HasEnds text ends → EachRecord text (λ r. Spells (base_record r) (take ends.variants text))
base_found text ends h r spells = rw (ends_each text ends h r spells, ← spells.1) (base_well r spells.0, sym (base-cut r))

pub base_ends :
    (text : List ℕ) (ends : Ends) → HasEnds text ends → HasEnds (take ends.variants text) (record ends { extensions = ends.variants; whole = ends.variants })
unfolding HasEnds
base_ends text ends (r, spells, at) = (base_record r, base_found text ends (r, spells, at) r spells, grind (arith, common_steps, ends_equal, append-nil))

pub base_kept :
    (text : List ℕ) (ends : Ends) → ∥ HasEnds text ends ∥₁ → ∥ HasEnds (take ends.variants text) (record ends { extensions = ends.variants; whole = ends.variants }) ∥₁
base_kept text ends merely = ∣ base_ends text ends (ends_had text ends merely) ∣₁

-- what the accessors cite
pub ruleset language_rules = (IsLanguage-cut, language_found, ends_had, offsets_kept)

pub ruleset script_rules = (is_script-cut, script_found, ends_had, offsets_kept)

pub ruleset region_rules = (is_region-cut, region_found, ends_had, offsets_kept)

pub ruleset variants_rules = (IsVariants-cut, variants_found, ends_had, offsets_kept)

pub ruleset extensions_rules = (IsExtensions-cut, extensions_found, ends_had, offsets_kept)

pub ruleset private_use_rules = (IsPrivate-cut, private_use_found, ends_had, offsets_kept)

pub ruleset base_rules = (base_kept, base_found, ends_had, offsets_kept)

pub language_spelled : (r : Record) (text : List ℕ) → IsWellFormed r → text ≡ language_part r → SpellsLanguage r.primary r.extended text
language_spelled r text well same = record { first = well.primary; others = well.extended; few = well.few; short = well.short; joined = sym same }
