-- The POSIX locale name of a tag (IEEE Std 1003.1, section 8.2), language[_territory][@modifier], which `Posix` reads as
-- the tag. A name has a variant only for the keyword `va-posix`: en_US_POSIX.
use Rattle.std.specs.Prelude.{◌≡◌, ℕ, Bool, false, not, ◌&&◌, ◌⊎◌, ◌++◌, List, [], IsTrue, Option, None, Some, codes, drop, length, nat_le, unwrap_or, option_map, option_and_then, if◌then◌else◌}
use Rattle.langtag_scan.specs.Prelude.{option_map_or}
use Rattle.langtag_scan.specs.Grammar.{Alike, are_alike, fold_text, ends_of, language_part, variants_part, EachRecord, Record, spell}
use Rattle.langtag.specs.Definitions.{capital_text, with_script, PartOf}
use Rattle.langtag_text.specs.Fields.{Fields}
use Rattle.langtag_cldr.specs.Definitions.{language_alone, or_else, without_script, add_likely_subtags}
use Rattle.langtag_likely.specs.Maximal.{fields_of}
use Rattle.langtag_posix.specs.Modifiers.{is_empty, modifier_for}
use Rattle.langtag_posix.specs.PlatformNames.{marked}
use Rattle.langtag_posix.specs.Posix.{IsTagOfName, NamesTag}

-- ---- the parts of a name

-- the parts of a name, each of which may be the empty text except the language
pub record NameParts : Type 0 where
  pub language : List ℕ
  pub territory : List ℕ
  pub variant : List ℕ
  pub modifier : List ℕ

-- whether a language can stand in a name: it has two or three letters, and is not `und`
abbrev pub is_named : List ℕ → Bool
is_named language = nat_le (length language) 3 && not (are_alike (codes "und") language)

-- the variant for the text after the variants of a tag, which are its extensions and its private use part: `POSIX` for
-- the keyword `va-posix` alone. A POSIX name has no other extension
abbrev pub name_variant : List ℕ → Option (List ℕ)
name_variant text = if is_empty text then Some [] else if are_alike (codes "-u-va-posix") text then Some (codes "POSIX") else None

-- whether a script is the likely script of fields that have none
abbrev pub is_likely : Fields → List ℕ → Bool
is_likely f script = option_map_or (λ most. are_alike most.script script) (add_likely_subtags f) false

-- the modifier for a script and variants. It leaves out a script that is likely for the language, both alone and with
-- its region, and a script that is likely only with the region and has no modifier
abbrev pub name_modifier : Fields → List ℕ → List ℕ → Option (List ℕ)
name_modifier f script variants =
    if not (is_likely (without_script f) script) then modifier_for script variants
    else if is_likely (language_alone f) script then modifier_for [] variants
    else or_else (modifier_for script variants) (modifier_for [] variants)

-- the text after the variants of a record
abbrev pub after_variants : Record → List ℕ
after_variants r = drop (ends_of r).variants (spell r)

-- the parts of the name of a record, or `None` if it has no name
unfoldable pub name_parts : Record → Option NameParts
name_parts r =
    if is_named (language_part r) then
    option_and_then
    (λ variant. option_map (λ modifier. record { language = language_part r; territory = unwrap_or r.region []; variant = variant; modifier = modifier })
    (name_modifier (fields_of r) (unwrap_or r.script []) (variants_part r)))
    (name_variant (after_variants r))
    else None

-- ---- the name

-- the language in lowercase, the territory in uppercase and the variant, with `_` between them, and the modifier after
-- `@`
abbrev pub name_text : NameParts → List ℕ
name_text n = fold_text n.language ++ (marked 95 (capital_text n.territory) ++ (marked 95 n.variant ++ marked 64 n.modifier))

-- the name of a tag, or `None` if it has no name; a private use tag and an irregular tag have none
abbrev pub IsPosixName : List ℕ → Option (List ℕ) → Type 0
IsPosixName tag name = PartOf tag (λ r. option_map name_text (name_parts r)) None name

-- ---- the name is read back

-- the tag of the name is the record with this script, ignoring case; it is the script of the record, or none if this is
-- the likely script of the language with its region
pub record IsReadBack (r : Record) (name : List ℕ) : Type 0 where
  pub script : Option (List ℕ)
  pub names : NamesTag name
  pub back : (tag : List ℕ) → IsTagOfName name tag → Alike tag (spell (with_script r script))
  pub kept : (script ≡ r.script) ⊎ ((script ≡ None) × IsTrue (is_likely (without_script (fields_of r)) (unwrap_or r.script [])))

-- `from_posix` reads the name as this tag
abbrev pub ReadsBack : List ℕ → List ℕ → Type 0
ReadsBack tag name = EachRecord tag (λ r. IsReadBack r name)
