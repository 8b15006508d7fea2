-- The definitions of tags and of their parts, for the crates that use them. Declares nothing.
pub use Rattle.langtag.specs.Edit.{with_script, with_region, with_language, with_variants, with_extensions, with_private_use, base_record, of_parts, SpellsPrivateUse, SetsPart, ComesBack, with_old_part, SetsScript, SetsVariants, SetsLanguage, SetsRegion, SetsExtensions, SetsPrivateUse}
pub use Rattle.langtag.specs.Form.{IsForm, IsAlikeForm, IsOnlyForm}
pub use Rattle.langtag.specs.Kinds.{AreOfOneKind}
pub use Rattle.langtag.specs.Part.{PartOf}
pub use Rattle.langtag.specs.Registered.{index_of, text_of, language_of}
unfoldable pub use Rattle.langtag.specs.Registered.{IsGrandfathered, IsGrandfatheredAt}
pub use Rattle.langtag.specs.Text.{lang_tag_text, normal_lang_tag_text, lang_tag_buf_text, normal_lang_tag_buf_text, part_text}
pub use Rattle.langtag_text.specs.RecommendedCase.{recommended_text, capital_text}
pub use Rattle.langtag_extension.specs.Decided.{are_extension_subtags}
pub use Rattle.langtag_extension.specs.ExtensionTexts.{IsFirstExtension}
pub use Rattle.langtag_extension.specs.Noted.{of_singleton, singletons, small_singleton}
pub use Rattle.langtag_extension.specs.Spelling.{extension_spelling, SpellsExtensions, IsExtensions, SpellsExtension, find_extension, IsExtension}
pub use Rattle.langtag_extension.specs.Text.{extension_subtags_left, extensions_left, extensions_text, extension_text, singleton_byte}
pub use Rattle.langtag_language.specs.Language.{SpellsLanguage, IsLanguage, EachLanguageSpelling, SpellsLanguageExtension, IsLanguageExtension}
pub use Rattle.langtag_language.specs.Text.{primary_language_text, language_text, extended_lang_tag_text, language_extension_text, extended_subtags_left, extension_list}
pub use Rattle.langtag_text.specs.Output.{IsCounted, Pushes}
pub use Rattle.langtag_text.specs.Writes.{Writes}
pub use Rattle.langtag_text.specs.WritesWhole.{WritesWhole}
pub use Rattle.langtag_place.specs.Repeat.{repeat, are_alike_bytes, repeat_index}
pub use Rattle.langtag_place.specs.Text.{variants_left, variants_text, variant_text, script_text, region_text, script_buf_text}
pub use Rattle.langtag_place.specs.Variants.{SpellsVariants, IsVariants}
pub use Rattle.langtag_private.specs.Decided.{is_private_use_text}
pub use Rattle.langtag_private.specs.PrivateUse.{IsPrivateUse}
pub use Rattle.langtag_private.specs.Text.{private_use_subtags_left, private_use_text}
pub use Rattle.langtag.specs.Refusal.{AlphanumericWithin, EndsTooSoon, IsFirstOther, IsRefusedSubtag}
pub use Rattle.langtag_scan.specs.Case.{Alike, are_alike, case_cmp}
pub use Rattle.langtag_scan.specs.Parts.{extensions_part, language_part, private_use_part, variants_part}
pub use Rattle.langtag_scan.specs.Record.{EachRecord, Record, Spells, spell}
unfoldable pub use Rattle.langtag_scan.specs.Tag.{IsIrregular, IsNormal, IsPrivate, IsTag}
pub use Rattle.langtag_scan.specs.Viable.{IsViableLength}
