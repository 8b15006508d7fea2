-- The types of this crate compare and hash by their texts, ignoring the case of ASCII letters. Singletons are the
-- exception: they compare and hash by their exact bytes.
use Rattle.std.specs.Prelude.{◌≡◌, ◌==◌}
use Rattle.langtag_scan.specs.Grammar.{u8, nat_cmp, ComparesByCase}
use Rattle.langtag_extension.specs.contracts.singleton.SingletonHash.TheImpl as singleton_hash
use Rattle.langtag_extension.specs.contracts.singleton.SingletonOrd.TheImpl as singleton_order
use Rattle.langtag_extension.specs.contracts.singleton.SingletonPartialEq.TheImpl as singleton_equality
use Rattle.langtag_extension.specs.declared.singleton.Singleton.{Singleton}
use Rattle.langtag_extension.specs.contracts.extension_subtag.ExtensionSubtagHash.TheImpl as extension_subtag_hash
use Rattle.langtag_extension.specs.contracts.extension_subtag.ExtensionSubtagOrd.TheImpl as extension_subtag_order
use Rattle.langtag_extension.specs.contracts.extension_subtag.ExtensionSubtagPartialEq.TheImpl as extension_subtag_equality
use Rattle.langtag_extension.specs.contracts.extension_subtag.ExtensionSubtagBufHash.TheImpl as extension_subtag_buf_hash
use Rattle.langtag_extension.specs.contracts.extension_subtag.ExtensionSubtagBufOrd.TheImpl as extension_subtag_buf_order
use Rattle.langtag_extension.specs.contracts.extension_subtag.ExtensionSubtagBufPartialEq.TheImpl as extension_subtag_buf_equality
use Rattle.langtag_extension.specs.contracts.extension.ExtensionHash.TheImpl as extension_hash
use Rattle.langtag_extension.specs.contracts.extension.ExtensionOrd.TheImpl as extension_order
use Rattle.langtag_extension.specs.contracts.extension.ExtensionPartialEq.TheImpl as extension_equality
use Rattle.langtag_extension.specs.contracts.extension.ExtensionBufHash.TheImpl as extension_buf_hash
use Rattle.langtag_extension.specs.contracts.extension.ExtensionBufOrd.TheImpl as extension_buf_order
use Rattle.langtag_extension.specs.contracts.extension.ExtensionBufPartialEq.TheImpl as extension_buf_equality
use Rattle.langtag_extension.specs.contracts.extensions.ExtensionsHash.TheImpl as extensions_hash
use Rattle.langtag_extension.specs.contracts.extensions.ExtensionsOrd.TheImpl as extensions_order
use Rattle.langtag_extension.specs.contracts.extensions.ExtensionsPartialEq.TheImpl as extensions_equality
use Rattle.langtag_extension.specs.contracts.extensions.ExtensionsBufHash.TheImpl as extensions_buf_hash
use Rattle.langtag_extension.specs.contracts.extensions.ExtensionsBufOrd.TheImpl as extensions_buf_order
use Rattle.langtag_extension.specs.contracts.extensions.ExtensionsBufPartialEq.TheImpl as extensions_buf_equality
use Rattle.langtag_extension.specs.Text.{extension_subtag_text, extension_subtag_buf_text, extension_text, extension_buf_text, extensions_text, extensions_buf_text, singleton_byte}

abbrev pub ExtensionSubtagsCompareByCase : Type 0
ExtensionSubtagsCompareByCase =
    ComparesByCase extension_subtag_text extension_subtag_equality.eq-value.it
    extension_subtag_order.cmp-value.it extension_subtag_hash.hash_input-value.it

abbrev pub ExtensionSubtagBufsCompareByCase : Type 0
ExtensionSubtagBufsCompareByCase =
    ComparesByCase extension_subtag_buf_text extension_subtag_buf_equality.eq-value.it
    extension_subtag_buf_order.cmp-value.it extension_subtag_buf_hash.hash_input-value.it

abbrev pub ExtensionsCompareByCase : Type 0
ExtensionsCompareByCase =
    ComparesByCase extension_text extension_equality.eq-value.it extension_order.cmp-value.it extension_hash.hash_input-value.it

abbrev pub ExtensionBufsCompareByCase : Type 0
ExtensionBufsCompareByCase =
    ComparesByCase extension_buf_text extension_buf_equality.eq-value.it
    extension_buf_order.cmp-value.it extension_buf_hash.hash_input-value.it

abbrev pub ExtensionListsCompareByCase : Type 0
ExtensionListsCompareByCase =
    ComparesByCase extensions_text extensions_equality.eq-value.it extensions_order.cmp-value.it extensions_hash.hash_input-value.it

abbrev pub ExtensionsBufsCompareByCase : Type 0
ExtensionsBufsCompareByCase =
    ComparesByCase extensions_buf_text extensions_buf_equality.eq-value.it
    extensions_buf_order.cmp-value.it extensions_buf_hash.hash_input-value.it

-- singletons compare by their exact bytes, and feed a hasher the byte and nothing else
pub record SingletonsCompareByByte : Type 0 where
  pub equal : (a b : Singleton) → singleton_equality.eq-value.it a b ≡ (singleton_byte a == singleton_byte b)
  pub ordered : (a b : Singleton) → singleton_order.cmp-value.it a b ≡ nat_cmp (singleton_byte a) (singleton_byte b)
  pub hashed : (a : Singleton) → singleton_hash.hash_input-value.it a ≡ u8 (singleton_byte a)
