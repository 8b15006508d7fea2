-- The types of this crate compare and hash by their texts, ignoring the case of ASCII letters.
use Rattle.langtag_scan.specs.Grammar.{ComparesByCase}
use Rattle.langtag_language.specs.contracts.primary_language.PrimaryLanguageHash.TheImpl as primary_hash
use Rattle.langtag_language.specs.contracts.primary_language.PrimaryLanguageOrd.TheImpl as primary_order
use Rattle.langtag_language.specs.contracts.primary_language.PrimaryLanguagePartialEq.TheImpl as primary_equality
use Rattle.langtag_language.specs.contracts.primary_language.PrimaryLanguageBufHash.TheImpl as primary_buf_hash
use Rattle.langtag_language.specs.contracts.primary_language.PrimaryLanguageBufOrd.TheImpl as primary_buf_order
use Rattle.langtag_language.specs.contracts.primary_language.PrimaryLanguageBufPartialEq.TheImpl as primary_buf_equality
use Rattle.langtag_language.specs.contracts.extended_lang_tag.ExtendedLangTagHash.TheImpl as extended_hash
use Rattle.langtag_language.specs.contracts.extended_lang_tag.ExtendedLangTagOrd.TheImpl as extended_order
use Rattle.langtag_language.specs.contracts.extended_lang_tag.ExtendedLangTagPartialEq.TheImpl as extended_equality
use Rattle.langtag_language.specs.contracts.extended_lang_tag.ExtendedLangTagBufHash.TheImpl as extended_buf_hash
use Rattle.langtag_language.specs.contracts.extended_lang_tag.ExtendedLangTagBufOrd.TheImpl as extended_buf_order
use Rattle.langtag_language.specs.contracts.extended_lang_tag.ExtendedLangTagBufPartialEq.TheImpl as extended_buf_equality
use Rattle.langtag_language.specs.contracts.language_extension.LanguageExtensionHash.TheImpl as extension_hash
use Rattle.langtag_language.specs.contracts.language_extension.LanguageExtensionOrd.TheImpl as extension_order
use Rattle.langtag_language.specs.contracts.language_extension.LanguageExtensionPartialEq.TheImpl as extension_equality
use Rattle.langtag_language.specs.contracts.language_extension.LanguageExtensionBufHash.TheImpl as extension_buf_hash
use Rattle.langtag_language.specs.contracts.language_extension.LanguageExtensionBufOrd.TheImpl as extension_buf_order
use Rattle.langtag_language.specs.contracts.language_extension.LanguageExtensionBufPartialEq.TheImpl as extension_buf_equality
use Rattle.langtag_language.specs.contracts.language.LanguageHash.TheImpl as language_hash
use Rattle.langtag_language.specs.contracts.language.LanguageOrd.TheImpl as language_order
use Rattle.langtag_language.specs.contracts.language.LanguagePartialEq.TheImpl as language_equality
use Rattle.langtag_language.specs.contracts.language.LanguageBufHash.TheImpl as language_buf_hash
use Rattle.langtag_language.specs.contracts.language.LanguageBufOrd.TheImpl as language_buf_order
use Rattle.langtag_language.specs.contracts.language.LanguageBufPartialEq.TheImpl as language_buf_equality
use Rattle.langtag_language.specs.Text.{primary_language_text, primary_language_buf_text, extended_lang_tag_text, extended_lang_tag_buf_text, language_extension_text, language_extension_buf_text, language_text, language_buf_text}

abbrev pub PrimaryLanguagesCompareByCase : Type 0
PrimaryLanguagesCompareByCase =
    ComparesByCase primary_language_text primary_equality.eq-value.it primary_order.cmp-value.it primary_hash.hash_input-value.it

abbrev pub PrimaryLanguageBufsCompareByCase : Type 0
PrimaryLanguageBufsCompareByCase =
    ComparesByCase primary_language_buf_text primary_buf_equality.eq-value.it primary_buf_order.cmp-value.it primary_buf_hash.hash_input-value.it

abbrev pub ExtendedLangTagsCompareByCase : Type 0
ExtendedLangTagsCompareByCase =
    ComparesByCase extended_lang_tag_text extended_equality.eq-value.it extended_order.cmp-value.it extended_hash.hash_input-value.it

abbrev pub ExtendedLangTagBufsCompareByCase : Type 0
ExtendedLangTagBufsCompareByCase =
    ComparesByCase extended_lang_tag_buf_text extended_buf_equality.eq-value.it extended_buf_order.cmp-value.it extended_buf_hash.hash_input-value.it

abbrev pub LanguageExtensionsCompareByCase : Type 0
LanguageExtensionsCompareByCase =
    ComparesByCase language_extension_text extension_equality.eq-value.it extension_order.cmp-value.it extension_hash.hash_input-value.it

abbrev pub LanguageExtensionBufsCompareByCase : Type 0
LanguageExtensionBufsCompareByCase =
    ComparesByCase language_extension_buf_text extension_buf_equality.eq-value.it extension_buf_order.cmp-value.it extension_buf_hash.hash_input-value.it

abbrev pub LanguagesCompareByCase : Type 0
LanguagesCompareByCase = ComparesByCase language_text language_equality.eq-value.it language_order.cmp-value.it language_hash.hash_input-value.it

abbrev pub LanguageBufsCompareByCase : Type 0
LanguageBufsCompareByCase =
    ComparesByCase language_buf_text language_buf_equality.eq-value.it language_buf_order.cmp-value.it language_buf_hash.hash_input-value.it
