-- Faults have `==` and a hash that agrees with it, but no order. Two faults are equal if they have the same kind and
-- their subtags are equal, ignoring case except in singletons (RFC 5646 section 2.1.1).
use Rattle.std.specs.Prelude.{◌≡◌, ◌==◌, Bool, false}
use Rattle.langtag_scan.specs.Grammar.{are_alike}
use Rattle.langtag.specs.Definitions.{primary_language_text, extended_lang_tag_text, script_text, region_text, variant_text, singleton_byte}
use Rattle.langtag_registry.specs.contracts.invalid_subtag.InvalidSubtagPartialEq.TheImpl as fault_equality
use Rattle.langtag_registry.specs.declared.invalid_subtag.InvalidSubtag.{InvalidSubtag}
use Rattle.langtag_registry.specs.declared.invalid_subtag.InvalidSubtag.TheVariants.{Language, Extlang, SecondExtlang, Script, Region, Variant, RepeatedVariant, RepeatedSingleton}

-- whether two faults are equal: their kinds are the same, and their subtags are equal, ignoring case, or their
-- singletons are the same byte
abbrev pub are_equal_faults : InvalidSubtag → InvalidSubtag → Bool
are_equal_faults (Language a) (Language b) = are_alike (primary_language_text a) (primary_language_text b)
are_equal_faults (Extlang a) (Extlang b) = are_alike (extended_lang_tag_text a) (extended_lang_tag_text b)
are_equal_faults (SecondExtlang a) (SecondExtlang b) = are_alike (extended_lang_tag_text a) (extended_lang_tag_text b)
are_equal_faults (Script a) (Script b) = are_alike (script_text a) (script_text b)
are_equal_faults (Region a) (Region b) = are_alike (region_text a) (region_text b)
are_equal_faults (Variant a) (Variant b) = are_alike (variant_text a) (variant_text b)
are_equal_faults (RepeatedVariant a) (RepeatedVariant b) = are_alike (variant_text a) (variant_text b)
are_equal_faults (RepeatedSingleton a) (RepeatedSingleton b) = singleton_byte a == singleton_byte b
are_equal_faults a b = false

abbrev pub FaultsCompareByKind : Type 0
FaultsCompareByKind = (a b : InvalidSubtag) → fault_equality.eq-value.it a b ≡ are_equal_faults a b
