-- The text of each type, as a list of bytes, and the texts that an iterator will still return.
use Rattle.std.specs.Prelude.{ℕ, List, String, string_bytes}
use Rattle.langtag_scan.specs.Prelude.{Global}
use Rattle.langtag_private.specs.declared.private_use_subtag.PrivateUseSubtag.{PrivateUseSubtag}
use Rattle.langtag_private.specs.declared.private_use_subtag.PrivateUseSubtagBuf.{PrivateUseSubtagBuf}
use Rattle.langtag_private.specs.declared.private_use.PrivateUse.{PrivateUse}
use Rattle.langtag_private.specs.declared.private_use.PrivateUseBuf.{PrivateUseBuf}
use Rattle.langtag_private.specs.declared.private_use_iter.PrivateUseIter.{PrivateUseIter}

abbrev pub private_use_subtag_text : PrivateUseSubtag → List ℕ
private_use_subtag_text subtag = subtag.text.0.now

-- the `String` itself, which the value owns
abbrev pub private_use_subtag_buf_string : PrivateUseSubtagBuf → String Global
private_use_subtag_buf_string subtag = subtag.text.0

abbrev pub private_use_subtag_buf_text : PrivateUseSubtagBuf → List ℕ
private_use_subtag_buf_text subtag = string_bytes (private_use_subtag_buf_string subtag)

abbrev pub private_use_text : PrivateUse → List ℕ
private_use_text private_use = private_use.text.0.now

-- the `String` itself, which the value owns
abbrev pub private_use_buf_string : PrivateUseBuf → String Global
private_use_buf_string private_use = private_use.text.0

abbrev pub private_use_buf_text : PrivateUseBuf → List ℕ
private_use_buf_text private_use = string_bytes (private_use_buf_string private_use)

-- the private use subtags that the iterator will still return
abbrev pub private_use_subtags_left : PrivateUseIter → List (List ℕ)
private_use_subtags_left subtags = subtags.rest
