-- The text of each type, as a list of bytes, and the texts that an iterator will still return.
use Rattle.std.specs.Prelude.{ℕ, List, String, string_bytes}
use Rattle.langtag_scan.specs.Prelude.{Global}
use Rattle.langtag_extension.specs.declared.singleton.Singleton.{Singleton}
use Rattle.langtag_extension.specs.declared.extension_subtag.ExtensionSubtag.{ExtensionSubtag}
use Rattle.langtag_extension.specs.declared.extension_subtag.ExtensionSubtagBuf.{ExtensionSubtagBuf}
use Rattle.langtag_extension.specs.declared.extension.Extension.{Extension}
use Rattle.langtag_extension.specs.declared.extension.ExtensionBuf.{ExtensionBuf}
use Rattle.langtag_extension.specs.declared.extension_iter.ExtensionIter.{ExtensionIter}
use Rattle.langtag_extension.specs.declared.extensions.Extensions.{Extensions}
use Rattle.langtag_extension.specs.declared.extensions.ExtensionsBuf.{ExtensionsBuf}
use Rattle.langtag_extension.specs.declared.extensions_iter.ExtensionsIter.{ExtensionsIter}

abbrev pub singleton_byte : Singleton → ℕ
singleton_byte singleton = singleton.byte

abbrev pub extension_subtag_text : ExtensionSubtag → List ℕ
extension_subtag_text subtag = subtag.text.0.now

-- the `String` itself, which the value owns
abbrev pub extension_subtag_buf_string : ExtensionSubtagBuf → String Global
extension_subtag_buf_string subtag = subtag.text.0

abbrev pub extension_subtag_buf_text : ExtensionSubtagBuf → List ℕ
extension_subtag_buf_text subtag = string_bytes (extension_subtag_buf_string subtag)

abbrev pub extension_text : Extension → List ℕ
extension_text extension = extension.text.0.now

-- the `String` itself, which the value owns
abbrev pub extension_buf_string : ExtensionBuf → String Global
extension_buf_string extension = extension.text.0

abbrev pub extension_buf_text : ExtensionBuf → List ℕ
extension_buf_text extension = string_bytes (extension_buf_string extension)

abbrev pub extensions_text : Extensions → List ℕ
extensions_text extensions = extensions.text.0.now

-- the `String` itself, which the value owns
abbrev pub extensions_buf_string : ExtensionsBuf → String Global
extensions_buf_string extensions = extensions.text.0

abbrev pub extensions_buf_text : ExtensionsBuf → List ℕ
extensions_buf_text extensions = string_bytes (extensions_buf_string extensions)

abbrev pub extension_subtags_left : ExtensionIter → List (List ℕ)
extension_subtags_left walk = walk.rest

abbrev pub extensions_left : ExtensionsIter → List (List ℕ)
extensions_left walk = walk.rest
