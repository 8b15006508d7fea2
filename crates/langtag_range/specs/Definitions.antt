-- The definitions of this crate, for its code and for the crates that use it. Declares nothing.
pub use Rattle.langtag_range.specs.Basic.{ends_subtag, BeginsWithRange, MatchesBasic, test_basic}
pub use Rattle.langtag_range.specs.BasicForm.{basic_form, begins_with_wildcard}
pub use Rattle.langtag_range.specs.Element.{items, is_comma, Element, is_ows, from_first, is_semicolon, trimmed, is_space, range_of, weight_of}
unfoldable pub use Rattle.langtag_range.specs.Element.{element}
pub use Rattle.langtag_range.specs.Extended.{test_extended, StandAmong, without_stars, stand_among, have_no_single, MatchesExtended, match_subtags}
pub use Rattle.langtag_range.specs.Fallback.{fallbacks, before_hyphens, ends_in_single}
pub use Rattle.langtag_range.specs.Listed.{basic_element, listed_element}
unfoldable pub use Rattle.langtag_range.specs.Listed.{listed, basic_text}
pub use Rattle.langtag_range.specs.Locale.{locale_place, is_hash, ends_locale, place_before, without_mark, front_of}
pub use Rattle.langtag_range.specs.Range.{is_star, is_language_range, is_basic_range, are_extended_range, is_range_subtag, is_first_subtag, are_basic_range, are_basic_subtags, are_range_subtags}
pub use Rattle.langtag_range.specs.Wanted.{wanted_elements, written_elements, written_items, hyphened_element, hyphened, is_separator, hyphened_byte, digits_behind, wanted_weight, folded, is_point, number_weight, value_weight, is_equals, is_q_name, is_q_parameter, wanted_text, parameters, ElementsIgnoreCase, written_element}
unfoldable pub use Rattle.langtag_range.specs.Wanted.{written}
