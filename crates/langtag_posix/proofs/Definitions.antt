-- The definitions of POSIX names that the proofs of this crate use. Declares nothing.
pub use Rattle.langtag_posix.specs.KeywordNames.{are_keywords, keywords_text}
pub use Rattle.langtag_posix.specs.Modifiers.{modifier_script, modifier_variant, is_script_code, is_empty, names, modifiers}
unfoldable pub use Rattle.langtag_posix.specs.Modifiers.{modifier_for}
pub use Rattle.langtag_posix.specs.PlatformNames.{is_of_language, is_plus, region_after_mark, behind_gap, filled, without_gap, platform_behind, platform_read, platform_text, region_now, marked}
unfoldable pub use Rattle.langtag_posix.specs.PlatformNames.{read_place, last_fields}
pub use Rattle.langtag_posix.specs.Posix.{with_said, IsTagOfName, IsFormOfName, modifier_of, said_script, script_behind, with_said_script, with_said_variant, IsAroundPosix, is_posix_alone, posix_extension, NamesTag, IsReadName, HasRegisteredVariants, behind_front, has_good_codeset, is_codeset, is_at, is_underscore, extensions_behind, is_java_place, may_follow, place_of, without_java_field}
unfoldable pub use Rattle.langtag_posix.specs.Posix.{posix_replaced, place_read, text_of_name}
pub use Rattle.langtag_posix.specs.ToPosix.{IsPosixName, after_variants, IsReadBack, NameParts, ReadsBack, is_likely, is_named, name_modifier, name_variant}
unfoldable pub use Rattle.langtag_posix.specs.ToPosix.{name_parts}
