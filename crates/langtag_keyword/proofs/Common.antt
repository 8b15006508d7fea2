-- The names that most proofs of extensions cite, passed on from one place. Declares nothing.
pub use Rattle.langtag_extension.proofs.ExtensionLookUp.{extension_found}
pub use Rattle.langtag_extension.specs.ExtensionTexts.{extension_texts}
pub use Rattle.langtag_extension.specs.Spelling.{SpellsExtension, extension_spelling, IsExtension, find_extension, SpellsExtensions}
pub use Rattle.langtag_extension.specs.Text.{extension_text, extensions_left, extensions_text}
pub use Rattle.langtag_keyword.proofs.Found.{both, each-map, each-weaker, found_has, found_some}
pub use Rattle.langtag_text.specs.Alias.{Alias, TypeAlias, alias_for, type_alias_for}
pub use Rattle.langtag_keyword.specs.Edit.{changed_from, extension_of, is_this_key, keyword_error, put_keyword, with_changed_u, with_keyword, without_keyword}
pub use Rattle.langtag_keyword.specs.Edit.{without_within, is_place, is_type, is_unicode_key, at_place, edited}
pub use Rattle.langtag_keyword.specs.Form.{in_alphabet, is_before, put_among, unicode_value, is_of, extension_form, forms_after, is_language_or_none}
pub use Rattle.langtag_keyword.specs.Form.{is_transform, transform_form, unicode_form, are_different_variants, keywords_form, keyword_form, after_one}
pub use Rattle.langtag_keyword.specs.Form.{language_form, one_of, are_fields, transform_value, is_unicode_language, extensions_record}
pub use Rattle.langtag_keyword.specs.KeySets.{HasKeys}
pub use Rattle.langtag_keyword.specs.Keys.{opens_keyword, length_with_hyphens, canonical_value_of}
pub use Rattle.langtag_keyword.specs.Keywords.{before_key, is_new_key, keywords_after, is_key, value_of}
pub use Rattle.langtag_keyword.specs.Least.{IsOffered, Least, key_of, number_text, order_number}
pub use Rattle.langtag_keyword.specs.Transform.{is_field_key}
pub use Rattle.langtag_text.proofs.Pushed.{pushes_both, pushes_joined, pushes_same, with_joined, pushes_ended, pushes_next}
pub use Rattle.langtag_text.specs.Output.{Pushes, with_subtag, HasText}
pub use Rattle.langtag_text.specs.declared.output.Output.{Output}
pub use Rattle.langtag_scan.proofs.CaseLaw.{fold_text-twice, length-fold, classes-fold}
pub use Rattle.langtag_scan.proofs.Joins.{hyphenated, length-join}
pub use Rattle.langtag_scan.proofs.SpelledTexts.{offsets_kept}
pub use Rattle.langtag_scan.proofs.SubtagFacts.{IsSubtag, of_extension_subtag, of_primary, of_variant}
pub use Rattle.langtag_scan.proofs.SubtagLists.{join-subtags, each_subtag, subtags-joined, each_from_test, each-append}
pub use Rattle.langtag_scan.specs.AlikeRecords.{AlikeRecords}
pub use Rattle.langtag_scan.specs.Case.{Alike, are_alike, fold_text, fold_byte}
pub use Rattle.langtag_scan.specs.CaseLaws.{are_alike-decides}
pub use Rattle.langtag_scan.specs.Class.{are_alphanumeric, is_alphanumeric, is_extension_subtag, is_variant, is_region, is_script, is_primary, is_extended}
pub use Rattle.langtag_scan.specs.Ends.{ends_of, to_variants}
pub use Rattle.langtag_scan.specs.Record.{Extension, IsWellFormedExtension, extension_flat, Record, IsWellFormed, one_flat, private_part_flat, spell}
pub use Rattle.langtag_scan.specs.Record.{EachRecord}
pub use Rattle.langtag_scan.specs.Stage.{Classes}
pub use Rattle.langtag_scan.specs.Subtags.{join, subtags, is_hyphen, segments, NoHyphenWithin, segments_left}
pub use Rattle.std.proofs.Common.{◌≡◌, ℕ, List, ◌&&◌, find, option_map, ap, ◌∙◌, map, refl, ◌+◌, ◌<◌, ◌≤◌, true, false, nat_lt, [], ◌∷◌, ◌++◌, length, get_or}
pub use Rattle.std.proofs.Common.{take, sym, arith, append_assoc, ◌||◌, Bool, cond, subst, not, Option, None, Some, unwrap_or, append-nil, ◌*◌, ◌^◌, ◌==◌, drop}
pub use Rattle.std.proofs.Common.{eqb-true, fold, zero, suc, ◌-◌, rules, slice_get, inl, inr}
pub use Rattle.std.proofs.lemmas.Bool.{false≢true, not-true, and_parts, false_from_ne_true}
pub use Rattle.std.proofs.lemmas.Bool.Decides.{nat_tests, eqb_tells}
pub use Rattle.std.proofs.lemmas.Grind.{common_steps, flat_map-append}
pub use Rattle.std.proofs.lemmas.Iterator.Consumers.{YieldsList-at}
pub use Rattle.std.proofs.lemmas.List.{map-append, take_all, take_more, at_drop_more, drop-drop, length-take, take-take, length-append, drop_all, drop-take}
pub use Rattle.std.proofs.lemmas.List.{length-drop, length-map}
pub use Rattle.std.proofs.lemmas.List.Folds.{list_any-append}
pub use Rattle.std.proofs.lemmas.List.Splits.{length-slice_split}
pub use Rattle.std.proofs.lemmas.Option.{slice_get-map}
pub use Rattle.std.proofs.lemmas.Str.{IsCharBoundary-after_ascii}
pub use Rattle.std.specs.List.{AllByRecursion, list_any, list_all, flat_map, filter, position_or_len, sum_by}
pub use Rattle.std.specs.Option.{is_none, is_some, option_map_or}
pub use Rattle.std.specs.Prelude.{IsTrue, codes}
pub use Rattle.std.specs.Str.{bytes_eq, IsUtf8}
