-- The definitions of this crate, for the crates that use it: a page or a file imports them from here in one line. Declares nothing.
pub use Rattle.langtag_scan.specs.AlikeRecords.{AlikeRecords, fold_extension, fold_record, fold_private_use, IsSpelledAlike}
pub use Rattle.langtag_scan.specs.Case.{are_alike, fold_text, Alike, case_cmp, EndsFirst, case_writes}
unfoldable pub use Rattle.langtag_scan.specs.Case.{fold_byte, folded_number}
pub use Rattle.langtag_scan.specs.CaseLaws.{are_alike-decides, on_alike_equiv, on_alike_per, on_case_total, on_case_agrees, on_case_ties, on_case_partial, on_case_respects}
pub use Rattle.langtag_scan.specs.Class.{are_letters, are_alphanumeric, is_alphanumeric, are_digits, has_length, is_single, IsSubtag}
unfoldable pub use Rattle.langtag_scan.specs.Class.{is_letter, is_digit, is_primary, is_script, is_region, is_variant, is_extended, is_extension_subtag, is_singleton, is_private_subtag, is_mark}
pub use Rattle.langtag_scan.specs.Compare.{ComparesByCase}
pub use Rattle.langtag_scan.specs.Ends.{ends_of, to_variants, to_region}
unfoldable pub use Rattle.langtag_scan.specs.Ends.{HasEnds}
pub use Rattle.langtag_scan.specs.Found.{IsFoundOf, is_normal, is_private_use, normal_ends, finding, irregular_index, IsOfOneKind}
pub use Rattle.langtag_scan.specs.Grandfathered.{Grandfathered}
unfoldable pub use Rattle.langtag_scan.specs.Grandfathered.{grandfathered_tags, irregular_texts}
pub use Rattle.langtag_scan.specs.Irregular.{folded_at, is_prefix, is_possible}
unfoldable pub use Rattle.langtag_scan.specs.Irregular.{folded_texts}
pub use Rattle.langtag_scan.specs.Kind.{Kind, kind_after, kind_of, has_letters, classes_by, Empty}
pub use Rattle.langtag_scan.specs.Machine.{end_at, index_after, all_at, IsRefused, IsBegun, outcome_of, HasStopped, ends_at, found_by}
unfoldable pub use Rattle.langtag_scan.specs.Machine.{outcome}
pub use Rattle.langtag_scan.specs.Parts.{language_part, text_between, variants_part, extensions_part, private_use_part, AreInOrder, private_use_subtags, parts}
pub use Rattle.langtag_scan.specs.Position.{position_of, is_dead, Begun, nothing_read, possible_index, irregular_after, position_after, part_before, ending_of}
pub use Rattle.langtag_scan.specs.Prelude.{replace_range, option_map_or, list_any, before_first, ForSome, YieldsFirstBy, item_count, YieldsFirstRef, list_all, u8, nat_cmp, AllByRecursion, is_ascii_alphabetic, is_in_range, Global, option_or, YieldsLastBy, cons_option, AllWithin, to_ascii_uppercase, slice_split, after_first, is_ascii_digit, Bor, range_with_len, bit_at, w64, to_be_bytes, IsNonDecreasing, YieldsLastRef, on, as_partial_cmp}
pub use Rattle.langtag_scan.specs.Record.{Record, extension_flat, Extension, spell, IsWellFormed, one_flat, Spells, private_part_flat, EachRecord, IsWellFormedExtension, PrivateUse, flat, private_use_flat, IsWellFormedPrivateUse}
pub use Rattle.langtag_scan.specs.Stage.{Stage, Start, Classes, classes_of, next_stage, AfterMark, Language, InPrivate, may_end, after_stage, Extended, AfterScript, AfterRegion, AfterVariant, AfterSingleton, InExtension, AfterFirstMark, InPrivateTag, is_one, after_by}
pub use Rattle.langtag_scan.specs.Subtags.{subtags, join, segments_left, segments, is_hyphen, NoHyphenWithin, IsHyphenFree}
unfoldable pub use Rattle.langtag_scan.specs.Tag.{IsNormal, IsTag, IsPrivate, IsIrregular, IsIrregularAt}
pub use Rattle.langtag_scan.specs.Tracking.{Stands, IsPlace, next_number}
pub use Rattle.langtag_scan.specs.Viable.{IsViableLength, IsStop, filling, fill}
unfoldable pub use Rattle.langtag_scan.specs.Viable.{IsViable, IsIrregularPrefix}
