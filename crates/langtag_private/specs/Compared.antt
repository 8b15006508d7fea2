-- The types of this crate compare and hash by their texts, ignoring the case of ASCII letters.
use Rattle.langtag_scan.specs.Grammar.{ComparesByCase}
use Rattle.langtag_private.specs.contracts.private_use_subtag.PrivateUseSubtagHash.TheImpl as subtag_hash
use Rattle.langtag_private.specs.contracts.private_use_subtag.PrivateUseSubtagOrd.TheImpl as subtag_order
use Rattle.langtag_private.specs.contracts.private_use_subtag.PrivateUseSubtagPartialEq.TheImpl as subtag_equality
use Rattle.langtag_private.specs.contracts.private_use_subtag.PrivateUseSubtagBufHash.TheImpl as subtag_buf_hash
use Rattle.langtag_private.specs.contracts.private_use_subtag.PrivateUseSubtagBufOrd.TheImpl as subtag_buf_order
use Rattle.langtag_private.specs.contracts.private_use_subtag.PrivateUseSubtagBufPartialEq.TheImpl as subtag_buf_equality
use Rattle.langtag_private.specs.contracts.private_use.PrivateUseHash.TheImpl as private_use_hash
use Rattle.langtag_private.specs.contracts.private_use.PrivateUseOrd.TheImpl as private_use_order
use Rattle.langtag_private.specs.contracts.private_use.PrivateUsePartialEq.TheImpl as private_use_equality
use Rattle.langtag_private.specs.contracts.private_use.PrivateUseBufHash.TheImpl as private_use_buf_hash
use Rattle.langtag_private.specs.contracts.private_use.PrivateUseBufOrd.TheImpl as private_use_buf_order
use Rattle.langtag_private.specs.contracts.private_use.PrivateUseBufPartialEq.TheImpl as private_use_buf_equality
use Rattle.langtag_private.specs.Text.{private_use_subtag_text, private_use_subtag_buf_text, private_use_text, private_use_buf_text}

abbrev pub PrivateUseSubtagsCompareByCase : Type 0
PrivateUseSubtagsCompareByCase =
    ComparesByCase private_use_subtag_text subtag_equality.eq-value.it subtag_order.cmp-value.it subtag_hash.hash_input-value.it

abbrev pub PrivateUseSubtagBufsCompareByCase : Type 0
PrivateUseSubtagBufsCompareByCase =
    ComparesByCase private_use_subtag_buf_text subtag_buf_equality.eq-value.it subtag_buf_order.cmp-value.it subtag_buf_hash.hash_input-value.it

abbrev pub PrivateUsesCompareByCase : Type 0
PrivateUsesCompareByCase =
    ComparesByCase private_use_text private_use_equality.eq-value.it private_use_order.cmp-value.it private_use_hash.hash_input-value.it

abbrev pub PrivateUseBufsCompareByCase : Type 0
PrivateUseBufsCompareByCase =
    ComparesByCase private_use_buf_text private_use_buf_equality.eq-value.it private_use_buf_order.cmp-value.it private_use_buf_hash.hash_input-value.it
