-- The definitions of this crate, for its code and for the crates that use it. Declares nothing.
unfoldable pub use Rattle.langtag_cldr.specs.Aliases.{language_aliases, region_aliases, region_replacements}
pub use Rattle.langtag_cldr.specs.Direction.{is_right_to_left_script}
pub use Rattle.langtag_cldr.specs.Follows.{KeepsLanguage, begins_british, begins_counted, begins_replaced, follows_none, is_never_second, is_plain_byte}
pub use Rattle.langtag_cldr.specs.Likely.{language_alone, Likely, likely_for, or_else, are_alike_fields, known, or_other, without_region, filled, looked_up, known_fields, add_likely, without_script, field}
pub use Rattle.langtag_cldr.specs.LikelyFields.{canonical_fields, least, remove_likely_subtags, suffices}
unfoldable pub use Rattle.langtag_cldr.specs.LikelyFields.{add_likely_subtags}
unfoldable pub use Rattle.langtag_cldr.specs.LikelySubtags.{likely_subtags, language_rows, other_rows}
pub use Rattle.langtag_cldr.specs.Matching.{region_alone, matching_fields, with_language_from, without_language, keeping_language, most_unknown, completed, with_region_from, base_text, current_text}
unfoldable pub use Rattle.langtag_cldr.specs.Matching.{language_replaced, matching_form, region_replaced, most_likely, letters_replaced, replaced_form}
pub use Rattle.langtag_cldr.specs.Numbers.{first_index, name_at, place, name_length, name_text}
unfoldable pub use Rattle.langtag_cldr.specs.Numbers.{key_number}
pub use Rattle.langtag_cldr.specs.Ranges.{BeginsPlain, after_common, begins_with_base}
unfoldable pub use Rattle.langtag_cldr.specs.RightToLeft.{right_to_left_scripts}
pub use Rattle.langtag_cldr.specs.Rows.{no_row, places_for, places_of}
unfoldable pub use Rattle.langtag_cldr.specs.Scripts.{script_codes}
unfoldable pub use Rattle.langtag_cldr.specs.Suggestion.{suggested_language, suggested_region}
pub use Rattle.langtag_cldr.specs.TextFields.{last_language, is_extended_by, language_of, after_mark, first_marked, marked_region, region_after, counted_parts, fields_of_subtags, after_language, counted, counts, script_of, after_script, region_of}
unfoldable pub use Rattle.langtag_cldr.specs.TextFields.{text_fields}
pub use Rattle.langtag_cldr.specs.Texts.{field_texts}
