-- What the setters do to a normal tag: they replace or remove one part of its record (RFC 5646 sections 2.2.1 to
-- 2.2.7), and the new text is what the new record spells.
use Rattle.std.specs.Prelude.{◌≡◌, ℕ, List, [], Option, None, IfSome, option_map}
use Rattle.langtag_scan.specs.Grammar.{Extension, PrivateUse, Record, EachRecord, IsWellFormedPrivateUse, Spells, private_use_flat, join}
use Rattle.langtag_language.specs.Language.{EachLanguageSpelling}
use Rattle.langtag_place.specs.Variants.{SpellsVariants}
use Rattle.langtag_extension.specs.Spelling.{SpellsExtensions}
use Rattle.langtag_language.specs.Text.{language_text}
use Rattle.langtag_place.specs.Text.{script_text, region_text, variants_text}
use Rattle.langtag_extension.specs.Text.{extensions_text}
use Rattle.langtag_private.specs.Text.{private_use_text}
use Rattle.langtag.specs.declared.part.Part.{Part}
use Rattle.langtag.specs.declared.part.Part.TheVariants.{Language, Script, Region, Variants, Extensions}
use Rattle.langtag.specs.declared.part.Part.TheVariants as part

-- ---- the record

-- the record with this primary subtag and these extended subtags
abbrev pub with_language : Record → List ℕ → List (List ℕ) → Record
with_language r primary extended = record r { primary = primary; extended = extended }

-- the record with this script, or without a script
abbrev pub with_script : Record → Option (List ℕ) → Record
with_script r script = record r { script = script }

-- the record with this region, or without a region
abbrev pub with_region : Record → Option (List ℕ) → Record
with_region r region = record r { region = region }

-- the record with these variants
abbrev pub with_variants : Record → List (List ℕ) → Record
with_variants r variants = record r { variants = variants }

-- the record with these extensions
abbrev pub with_extensions : Record → List Extension → Record
with_extensions r extensions = record r { extensions = extensions }

-- the record with this private use part, or without one
abbrev pub with_private_use : Record → Option PrivateUse → Record
with_private_use r private_use = record r { private_use = private_use }

-- the record with these parts and no others
abbrev pub of_parts : List ℕ → List (List ℕ) → Option (List ℕ) → Option (List ℕ) → Record
of_parts primary extended script region = record {
  primary = primary;
  extended = extended;
  script = script;
  region = region;
  variants = [];
  extensions = [];
  private_use = None;
}

-- the record without extensions and private use
abbrev pub base_record : Record → Record
base_record r = with_private_use (with_extensions r []) None

-- ---- the text: the record of the old text, with the part that is set, spells the new text

-- the new text has the language that was set
abbrev pub SetsLanguage : List ℕ → List ℕ → List ℕ → Type 0
SetsLanguage language old new =
    EachRecord old (λ r. EachLanguageSpelling language (λ primary extended. Spells (with_language r primary extended) new))

-- the new text has the script that was set, or none
abbrev pub SetsScript : Option (List ℕ) → List ℕ → List ℕ → Type 0
SetsScript script old new = EachRecord old (λ r. Spells (with_script r script) new)

-- the new text has the region that was set, or none
abbrev pub SetsRegion : Option (List ℕ) → List ℕ → List ℕ → Type 0
SetsRegion region old new = EachRecord old (λ r. Spells (with_region r region) new)

-- the new text has the variants that were set; the empty text means no variants
abbrev pub SetsVariants : List ℕ → List ℕ → List ℕ → Type 0
SetsVariants text old new =
    EachRecord old (λ r. (variants : List (List ℕ)) → SpellsVariants variants text → Spells (with_variants r variants) new)

-- the new text has the extensions that were set; the empty text means no extensions
abbrev pub SetsExtensions : List ℕ → List ℕ → List ℕ → Type 0
SetsExtensions text old new =
    EachRecord old (λ r. (extensions : List Extension) → SpellsExtensions extensions text → Spells (with_extensions r extensions) new)

-- a well-formed private use part spells the text, or both are absent
pub record SpellsPrivateUse (part : Option PrivateUse) (text : Option (List ℕ)) : Type 0 where
  pub member : IfSome part IsWellFormedPrivateUse
  pub joined : option_map (λ p. join (private_use_flat p)) part ≡ text

-- the new text has the private use part that was set, or none
abbrev pub SetsPrivateUse : Option (List ℕ) → List ℕ → List ℕ → Type 0
SetsPrivateUse text old new =
    EachRecord old (λ r. (part : Option PrivateUse) → SpellsPrivateUse part text → Spells (with_private_use r part) new)

-- the new text has the part that was set
abbrev pub SetsPart : Part → List ℕ → List ℕ → Type 0
SetsPart (Language language) old new = SetsLanguage (language_text language) old new
SetsPart (Script script) old new = SetsScript (option_map script_text script) old new
SetsPart (Region region) old new = SetsRegion (option_map region_text region) old new
SetsPart (Variants variants) old new = SetsVariants (variants_text variants) old new
SetsPart (Extensions extensions) old new = SetsExtensions (extensions_text extensions) old new
SetsPart (part.PrivateUse private_use) old new = SetsPrivateUse (option_map private_use_text private_use) old new

-- setting a part and then setting it back gives the original text. This means: if a record spells t, the record with
-- another part spells u, and v is u with the original part, then v is t
abbrev pub GivesBack : (M : Type 0) → (Record → M → Record) → (Record → List ℕ → List ℕ → Type 0) → Type 0
GivesBack M with_member sets_back =
    (r : Record) (m : M) (t u v : List ℕ) → Spells r t → Spells (with_member r m) u → sets_back r u v → v ≡ t

-- the first record, with the part of the second record that a setter of this kind of part sets
abbrev pub with_old_part : Part → Record → Record → Record
with_old_part (Language language) new old = with_language new old.primary old.extended
with_old_part (Script script) new old = with_script new old.script
with_old_part (Region region) new old = with_region new old.region
with_old_part (Variants variants) new old = with_variants new old.variants
with_old_part (Extensions extensions) new old = with_extensions new old.extensions
with_old_part (part.PrivateUse private_use) new old = with_private_use new old.private_use

-- the record of the new text, with the part of the record of the old text, is the record of the old text
abbrev pub ComesBack : (Record → Record → Record) → List ℕ → List ℕ → Type 0
ComesBack with_old old new = EachRecord old (λ r. EachRecord new (λ q. with_old q r ≡ r))
