-- The text of each type, as a list of bytes.
use Rattle.std.specs.Prelude.{ℕ, List, [], String, unwrap_or, option_map, string_bytes}
use Rattle.langtag_scan.specs.Prelude.{Global}
use Rattle.langtag_language.specs.Text.{language_text}
use Rattle.langtag_place.specs.Text.{script_text, region_text, variants_text}
use Rattle.langtag_extension.specs.Text.{extensions_text}
use Rattle.langtag_private.specs.Text.{private_use_text}
use Rattle.langtag.specs.declared.normal_lang_tag.NormalLangTag.{NormalLangTag}
use Rattle.langtag.specs.declared.normal_lang_tag_buf.NormalLangTagBuf.{NormalLangTagBuf}
use Rattle.langtag.specs.declared.lang_tag.LangTag.{LangTag}
use Rattle.langtag.specs.declared.lang_tag_buf.LangTagBuf.{LangTagBuf}
use Rattle.langtag.specs.declared.part.Part.{Part}
use Rattle.langtag.specs.declared.part.Part.TheVariants.{Language, Script, Region, Variants, Extensions, PrivateUse}

abbrev pub normal_lang_tag_text : NormalLangTag → List ℕ
normal_lang_tag_text tag = tag.text.0.now

-- the `String` itself, which the value owns
abbrev pub normal_lang_tag_buf_string : NormalLangTagBuf → String Global
normal_lang_tag_buf_string tag = tag.text.0

abbrev pub normal_lang_tag_buf_text : NormalLangTagBuf → List ℕ
normal_lang_tag_buf_text tag = string_bytes (normal_lang_tag_buf_string tag)

abbrev pub lang_tag_text : LangTag → List ℕ
lang_tag_text tag = tag.text.0.now

-- the `String` itself, which the value owns
abbrev pub lang_tag_buf_string : LangTagBuf → String Global
lang_tag_buf_string tag = tag.text.0

abbrev pub lang_tag_buf_text : LangTagBuf → List ℕ
lang_tag_buf_text tag = string_bytes (lang_tag_buf_string tag)

-- the text of a part, which is empty if the part is absent
abbrev pub part_text : Part → List ℕ
part_text (Language language) = language_text language
part_text (Script script) = unwrap_or (option_map script_text script) []
part_text (Region region) = unwrap_or (option_map region_text region) []
part_text (Variants variants) = variants_text variants
part_text (Extensions extensions) = extensions_text extensions
part_text (PrivateUse private_use) = unwrap_or (option_map private_use_text private_use) []
