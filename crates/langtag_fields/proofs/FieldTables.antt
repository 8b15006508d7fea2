-- The tables have what the lists say: by computation. Written by data/registry/generate.py. Do not edit.
use Rattle.langtag_scan.proofs.Prelude.{◌≡◌, ℕ, true, List, Some, map, refl, list_all}
use Rattle.langtag_scan.specs.Grammar.{fold_byte, folded_number, is_letter, is_digit, is_primary, is_script, is_region, is_variant, are_alphanumeric}
use Rattle.langtag_fields.specs.declared.tables.TheConstants as table
use Rattle.langtag_fields.specs.Fields as field
use Rattle.langtag_fields.specs.Subtags as list
use Rattle.langtag_fields.specs.Tables.{AreKeysOf, IsTableOf, texts_at, AreEndsOf, end_number}
use Rattle.langtag_fields.proofs.Values.{value_good}

pub extlang_keys : AreKeysOf table.EXTLANG_KEYS list.extlang_subtags
unfolding list.extlang_subtags folded_number fold_byte is_letter is_digit
extlang_keys = record { numbers = refl; climb = refl; plain = refl }

pub script_keys : AreKeysOf table.SCRIPT_KEYS list.script_subtags
unfolding list.script_subtags folded_number fold_byte is_letter is_digit
script_keys = record { numbers = refl; climb = refl; plain = refl }

pub region_keys : AreKeysOf table.REGION_KEYS list.region_subtags
unfolding list.region_subtags folded_number fold_byte is_letter is_digit
region_keys = record { numbers = refl; climb = refl; plain = refl }

pub variant_keys : AreKeysOf table.VARIANT_KEYS list.variant_subtags
unfolding list.variant_subtags folded_number fold_byte is_letter is_digit
variant_keys = record { numbers = refl; climb = refl; plain = refl }

pub deprecated_language_keys : AreKeysOf table.DEPRECATED_LANGUAGE_KEYS list.deprecated_languages
unfolding list.deprecated_languages folded_number fold_byte is_letter is_digit
deprecated_language_keys = record { numbers = refl; climb = refl; plain = refl }

pub deprecated_extlang_keys : AreKeysOf table.DEPRECATED_EXTLANG_KEYS list.deprecated_extlangs
unfolding list.deprecated_extlangs folded_number fold_byte is_letter is_digit
deprecated_extlang_keys = record { numbers = refl; climb = refl; plain = refl }

pub deprecated_region_keys : AreKeysOf table.DEPRECATED_REGION_KEYS list.deprecated_regions
unfolding list.deprecated_regions folded_number fold_byte is_letter is_digit
deprecated_region_keys = record { numbers = refl; climb = refl; plain = refl }

pub deprecated_variant_keys : AreKeysOf table.DEPRECATED_VARIANT_KEYS list.deprecated_variants
unfolding list.deprecated_variants folded_number fold_byte is_letter is_digit
deprecated_variant_keys = record { numbers = refl; climb = refl; plain = refl }

pub deprecated_tag_texts : map (λ text. text.now) table.DEPRECATED_TAGS ≡ list.deprecated_tags
unfolding list.deprecated_tags
deprecated_tag_texts = refl

pub preferred_table :
    IsTableOf table.PREFERRED_LANGUAGE_KEYS (texts_at (map (λ text. text.now) table.PREFERRED_LANGUAGE_VALUES) table.PREFERRED_LANGUAGE_INDICES) list.language_preferred
unfolding list.language_preferred folded_number fold_byte is_letter is_digit
preferred_table = record { numbers = record { numbers = refl; climb = refl; plain = refl }; beside = refl }

pub preferred_good : (text new : List ℕ) → field.preferred_language text ≡ Some new → is_primary new ≡ true
unfolding field.preferred_language list.language_preferred is_primary is_letter
preferred_good text new is = value_good is_primary list.language_preferred text new refl is

pub suppress_table :
    IsTableOf table.SUPPRESS_SCRIPT_KEYS (texts_at (map (λ text. text.now) table.SUPPRESS_SCRIPT_VALUES) table.SUPPRESS_SCRIPT_INDICES) list.language_suppress_script
unfolding list.language_suppress_script folded_number fold_byte is_letter is_digit
suppress_table = record { numbers = record { numbers = refl; climb = refl; plain = refl }; beside = refl }

pub suppress_good : (text new : List ℕ) → field.suppress_script text ≡ Some new → is_script new ≡ true
unfolding field.suppress_script list.language_suppress_script is_script is_letter
suppress_good text new is = value_good is_script list.language_suppress_script text new refl is

pub macro_table :
    IsTableOf table.MACROLANGUAGE_KEYS (texts_at (map (λ text. text.now) table.MACROLANGUAGE_VALUES) table.MACROLANGUAGE_INDICES) list.language_macrolanguage
unfolding list.language_macrolanguage folded_number fold_byte is_letter is_digit
macro_table = record { numbers = record { numbers = refl; climb = refl; plain = refl }; beside = refl }

pub macro_good : (text new : List ℕ) → field.macrolanguage text ≡ Some new → is_primary new ≡ true
unfolding field.macrolanguage list.language_macrolanguage is_primary is_letter
macro_good text new is = value_good is_primary list.language_macrolanguage text new refl is

pub prefix_table :
    IsTableOf table.EXTLANG_PREFIX_KEYS (texts_at (map (λ text. text.now) table.EXTLANG_PREFIX_VALUES) table.EXTLANG_PREFIX_INDICES) list.extlang_prefixes
unfolding list.extlang_prefixes folded_number fold_byte is_letter is_digit
prefix_table = record { numbers = record { numbers = refl; climb = refl; plain = refl }; beside = refl }

pub prefix_good : (text new : List ℕ) → field.extlang_prefix text ≡ Some new → is_primary new ≡ true
unfolding field.extlang_prefix list.extlang_prefixes is_primary is_letter
prefix_good text new is = value_good is_primary list.extlang_prefixes text new refl is

pub regions_table :
    IsTableOf table.PREFERRED_REGION_KEYS (texts_at (map (λ text. text.now) table.PREFERRED_REGION_VALUES) table.PREFERRED_REGION_INDICES) list.region_preferred
unfolding list.region_preferred folded_number fold_byte is_letter is_digit
regions_table = record { numbers = record { numbers = refl; climb = refl; plain = refl }; beside = refl }

pub regions_good : (text new : List ℕ) → field.preferred_region text ≡ Some new → is_region new ≡ true
unfolding field.preferred_region list.region_preferred is_region is_letter is_digit
regions_good text new is = value_good is_region list.region_preferred text new refl is

pub variants_table :
    IsTableOf table.PREFERRED_VARIANT_KEYS (texts_at (map (λ text. text.now) table.PREFERRED_VARIANT_VALUES) table.PREFERRED_VARIANT_INDICES) list.variant_preferred
unfolding list.variant_preferred folded_number fold_byte is_letter is_digit
variants_table = record { numbers = record { numbers = refl; climb = refl; plain = refl }; beside = refl }

pub variants_good : (text new : List ℕ) → field.preferred_variant text ≡ Some new → is_variant new ≡ true
unfolding field.preferred_variant list.variant_preferred is_variant is_letter is_digit
variants_good text new is = value_good is_variant list.variant_preferred text new refl is

pub tag_entries : map (λ pair. record { subtag = pair.0.now; value = pair.1.now }) table.PREFERRED_TAGS ≡ list.tag_preferred
unfolding list.tag_preferred
tag_entries = refl

pub tag_ends : AreEndsOf table.PREFERRED_TAG_KEYS (map (λ pair. pair.0.now) table.PREFERRED_TAGS)
unfolding end_number folded_number fold_byte
tag_ends = record { numbers = refl; climb = refl }

pub prefix_numbers : map (λ pair. pair.0) table.VARIANT_PREFIXES ≡ map (λ e. folded_number e.subtag) list.variant_prefixes
unfolding list.variant_prefixes folded_number fold_byte
prefix_numbers = refl

pub prefix_texts : map (λ pair. pair.1.now) table.VARIANT_PREFIXES ≡ map (λ e. e.value) list.variant_prefixes
unfolding list.variant_prefixes
prefix_texts = refl

pub prefixed_alphanumeric : list_all (λ e. are_alphanumeric e.subtag) list.variant_prefixes ≡ true
unfolding list.variant_prefixes is_letter is_digit
prefixed_alphanumeric = refl
