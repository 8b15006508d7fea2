-- The laws of tags and subtags that the proofs of the crates above use: a page imports them from here in one line.
pub use Rattle.langtag_scan.proofs.Ascii.{alphanumeric_below, IsUtf8-tag, IsAscii-each, IsAscii-spelled, IsAscii-tag, IsAscii-normal, IsAscii-private}
pub use Rattle.langtag_scan.proofs.CaseLaw.{length-fold, alike_parts, fold_text-twice, classes-fold, join-fold, alike_normal, each_test-fold, alike_subtags_test, is_letter-fold, spelled_alike, hyphen-fold, segments-fold, map-twice, fold_byte-twice, is_digit-fold, all-fold, alike_region, alike_primary, alike_private, alike_irregular, extensions-fold, private_part-fold, subtags_test-fold, alike_tag, is_mark-fold, fold_extension-twice, subtags-fold}
pub use Rattle.langtag_scan.proofs.Disjoint.{script_four, region_short, region_two_three, variant_long, extended_three, first_no_digit, letter_no_digit, variant_four}
pub use Rattle.langtag_scan.proofs.FoldedNumbers.{folded_number-tells, among-numbers, among-folded}
pub use Rattle.langtag_scan.proofs.FoundLaws.{tag_found, normal_found, private_found, found_had, found_ends}
pub use Rattle.langtag_scan.proofs.IrregularTexts.{normal_no_private, normal_no_irregular, irregular_fold, private_no_irregular}
pub use Rattle.langtag_scan.proofs.Joins.{hyphenated, join-hyphenated, join-append, length-join, take-join, hyphenated-append, drop-join, length-join-append, length-hyphenated, join-replaced, join-around, unwrap_or-joined}
pub use Rattle.langtag_scan.proofs.NormalTexts.{spelled_once, normal_or_not, spelled_segments, normal_from_runs, runs_from_normal}
pub use Rattle.langtag_scan.proofs.PartOffsets.{length-spell, ends_in_order, ends_equal, language_between, script_between, region_between, variants_between, extensions_between, private_use_between, join-parts}
pub use Rattle.langtag_scan.proofs.SpelledTexts.{ends_had, ends_whole, ends_each, ends_ordered, offsets_kept, normal_from_ends, normal_spelled, subtags-spelled}
pub use Rattle.langtag_scan.proofs.SubtagFacts.{of_variant, of_region, of_primary, of_script, singleton_alphanumeric, IsSubtag, of_extension_subtag, of_one, of_extended, letters_alphanumeric, of_private_subtag, mark_alphanumeric, no_hyphen_each}
pub use Rattle.langtag_scan.proofs.SubtagLists.{each_subtag, subtags-joined, each_from_test, join-subtags, test_from_each, length-subtags, segments-join, slice_split-push, slice_split-append, length-after_first, subtags-segments, segments-hyphen_free, each-append}
pub use Rattle.langtag_scan.proofs.TagLaws.{tag_normal, tag_private, tag_of_irregular, prefixes_viable, viable_from_tag, stop_at}
