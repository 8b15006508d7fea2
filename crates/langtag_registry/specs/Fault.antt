-- The faults that make a tag invalid, and the subtags at fault (RFC 5646 sections 2.2.2 and 2.2.9).
use Rattle.std.specs.Prelude.{ℕ, Bool, not, List, [], ◌∷◌, ◌++◌, map, Option, None, Some, if◌then◌else◌, position}
use Rattle.langtag_scan.specs.Grammar.{list_any, are_alike, Record}
use Rattle.langtag.specs.Definitions.{primary_language_text, extended_lang_tag_text, script_text, region_text, variant_text, singleton_byte, repeat_index, are_alike_bytes}
use Rattle.langtag_registry.specs.declared.invalid_subtag.InvalidSubtag.{InvalidSubtag}
use Rattle.langtag_registry.specs.declared.invalid_subtag.InvalidSubtag.TheVariants.{Language, Extlang, SecondExtlang, Script, Region, Variant, RepeatedVariant, RepeatedSingleton}
use Rattle.langtag_fields.specs.Registered.{is_registered_language, is_registered_extlang, is_registered_script, is_registered_region, is_registered_variant}

-- a fault: a subtag that is not registered, is a second or third extended language, or repeats an earlier variant or
-- singleton, ignoring case
pub data Told : Type 0 where
  language extlang second_extlang script region variant repeated_variant repeated_singleton : List ℕ → Told

-- the fault for a value of the error type
abbrev pub told : InvalidSubtag → Told
told (Language subtag) = language (primary_language_text subtag)
told (Extlang subtag) = extlang (extended_lang_tag_text subtag)
told (SecondExtlang subtag) = second_extlang (extended_lang_tag_text subtag)
told (Script subtag) = script (script_text subtag)
told (Region subtag) = region (region_text subtag)
told (Variant subtag) = variant (variant_text subtag)
told (RepeatedVariant subtag) = repeated_variant (variant_text subtag)
told (RepeatedSingleton subtag) = repeated_singleton (singleton_byte subtag ∷ [])

-- ---- all faults of a record, in the order of the text

abbrev pub unless : Bool → Told → List Told
unless holds fault = if holds then [] else fault ∷ []

abbrev pub extlang_faults : List (List ℕ) → List Told
extlang_faults [] = []
extlang_faults (first ∷ others) = unless (is_registered_extlang first) (extlang first) ++ map second_extlang others

abbrev pub language_faults : List ℕ → List (List ℕ) → List Told
language_faults primary extended = unless (is_registered_language primary) (language primary) ++ extlang_faults extended

abbrev pub script_faults : Option (List ℕ) → List Told
script_faults None = []
script_faults (Some subtag) = unless (is_registered_script subtag) (script subtag)

abbrev pub region_faults : Option (List ℕ) → List Told
region_faults None = []
region_faults (Some subtag) = unless (is_registered_region subtag) (region subtag)

-- the faults of variants; the variants in `seen` come before them
abbrev pub variant_faults : List (List ℕ) → List (List ℕ) → List Told
variant_faults seen [] = []
variant_faults seen (subtag ∷ rest) =
    unless (is_registered_variant subtag) (variant subtag)
    ++ (unless (not (list_any (are_alike subtag) seen)) (repeated_variant subtag) ++ variant_faults (seen ++ subtag ∷ []) rest)

-- the faults of singletons; the singletons in `seen` come before them
abbrev pub singleton_faults : List ℕ → List ℕ → List Told
singleton_faults seen [] = []
singleton_faults seen (singleton ∷ rest) =
    unless (not (list_any (are_alike_bytes singleton) seen)) (repeated_singleton (singleton ∷ [])) ++ singleton_faults (seen ++ singleton ∷ []) rest

-- all faults of a record, in the order of the text
unfoldable pub faults : Record → List Told
faults r =
    language_faults r.primary r.extended
    ++ (script_faults r.script
    ++ (region_faults r.region
    ++ (variant_faults [] r.variants ++ singleton_faults [] (map (λ e. e.singleton) r.extensions))))

-- the index of the subtag at fault: counted from 0 among the variants for a variant, and among the extensions for a
-- singleton; it is 0 for any other subtag
abbrev pub fault_index : Record → Told → Option ℕ
fault_index r (variant subtag) = position (λ v. not (is_registered_variant v)) r.variants
fault_index r (repeated_variant subtag) = repeat_index are_alike r.variants
fault_index r (repeated_singleton subtag) = repeat_index are_alike_bytes (map (λ e. e.singleton) r.extensions)
fault_index r other = Some 0
