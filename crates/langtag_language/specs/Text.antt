-- The text of each type, as a list of bytes, and the texts that an iterator will still return.
use Rattle.std.specs.Prelude.{ℕ, List, [], Option, None, Some, String, string_bytes}
use Rattle.langtag_scan.specs.Grammar.{Global, subtags}
use Rattle.langtag_language.specs.declared.primary_language.PrimaryLanguage.{PrimaryLanguage}
use Rattle.langtag_language.specs.declared.primary_language.PrimaryLanguageBuf.{PrimaryLanguageBuf}
use Rattle.langtag_language.specs.declared.extended_lang_tag.ExtendedLangTag.{ExtendedLangTag}
use Rattle.langtag_language.specs.declared.extended_lang_tag.ExtendedLangTagBuf.{ExtendedLangTagBuf}
use Rattle.langtag_language.specs.declared.language_extension.LanguageExtension.{LanguageExtension}
use Rattle.langtag_language.specs.declared.language_extension.LanguageExtensionBuf.{LanguageExtensionBuf}
use Rattle.langtag_language.specs.declared.language_extension_iter.LanguageExtensionIter.{LanguageExtensionIter}
use Rattle.langtag_language.specs.declared.language.Language.{Language}
use Rattle.langtag_language.specs.declared.language.LanguageBuf.{LanguageBuf}

abbrev pub primary_language_text : PrimaryLanguage → List ℕ
primary_language_text primary = primary.text.0.now

-- the `String` itself, which the value owns
abbrev pub primary_language_buf_string : PrimaryLanguageBuf → String Global
primary_language_buf_string primary = primary.text.0

abbrev pub primary_language_buf_text : PrimaryLanguageBuf → List ℕ
primary_language_buf_text primary = string_bytes (primary_language_buf_string primary)

abbrev pub extended_lang_tag_text : ExtendedLangTag → List ℕ
extended_lang_tag_text extended = extended.text.0.now

-- the `String` itself, which the value owns
abbrev pub extended_lang_tag_buf_string : ExtendedLangTagBuf → String Global
extended_lang_tag_buf_string extended = extended.text.0

abbrev pub extended_lang_tag_buf_text : ExtendedLangTagBuf → List ℕ
extended_lang_tag_buf_text extended = string_bytes (extended_lang_tag_buf_string extended)

abbrev pub language_extension_text : LanguageExtension → List ℕ
language_extension_text extension = extension.text.0.now

-- the `String` itself, which the value owns
abbrev pub language_extension_buf_string : LanguageExtensionBuf → String Global
language_extension_buf_string extension = extension.text.0

abbrev pub language_extension_buf_text : LanguageExtensionBuf → List ℕ
language_extension_buf_text extension = string_bytes (language_extension_buf_string extension)

-- the subtags of a language extension, or the empty list if there is none
abbrev pub extension_list : Option LanguageExtension → List (List ℕ)
extension_list None = []
extension_list (Some extension) = subtags (language_extension_text extension)

-- the extended subtags that the iterator will still return
abbrev pub extended_subtags_left : LanguageExtensionIter → List (List ℕ)
extended_subtags_left subtags = subtags.rest

abbrev pub language_text : Language → List ℕ
language_text language = language.text.0.now

-- the `String` itself, which the value owns
abbrev pub language_buf_string : LanguageBuf → String Global
language_buf_string language = language.text.0

abbrev pub language_buf_text : LanguageBuf → List ℕ
language_buf_text language = string_bytes (language_buf_string language)
