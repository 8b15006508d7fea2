-- The tag types compare and hash by their texts, ignoring the case of ASCII letters. Typed tags have only `==`.
use Rattle.std.specs.Prelude.{◌≡◌, ◌==◌, Bool, false}
use Rattle.langtag_scan.specs.Grammar.{are_alike, ComparesByCase}
use Rattle.langtag.specs.contracts.lang_tag.LangTagHash.TheImpl as lang_tag_hash
use Rattle.langtag.specs.contracts.lang_tag.LangTagOrd.TheImpl as lang_tag_order
use Rattle.langtag.specs.contracts.lang_tag.LangTagPartialEq.TheImpl as lang_tag_equality
use Rattle.langtag.specs.contracts.lang_tag_buf.LangTagBufHash.TheImpl as lang_tag_buf_hash
use Rattle.langtag.specs.contracts.lang_tag_buf.LangTagBufOrd.TheImpl as lang_tag_buf_order
use Rattle.langtag.specs.contracts.lang_tag_buf.LangTagBufPartialEq.TheImpl as lang_tag_buf_equality
use Rattle.langtag.specs.contracts.normal_lang_tag.NormalLangTagHash.TheImpl as normal_lang_tag_hash
use Rattle.langtag.specs.contracts.normal_lang_tag.NormalLangTagOrd.TheImpl as normal_lang_tag_order
use Rattle.langtag.specs.contracts.normal_lang_tag.NormalLangTagPartialEq.TheImpl as normal_lang_tag_equality
use Rattle.langtag.specs.contracts.normal_lang_tag_buf.NormalLangTagBufHash.TheImpl as normal_lang_tag_buf_hash
use Rattle.langtag.specs.contracts.normal_lang_tag_buf.NormalLangTagBufOrd.TheImpl as normal_lang_tag_buf_order
use Rattle.langtag.specs.contracts.normal_lang_tag_buf.NormalLangTagBufPartialEq.TheImpl as normal_lang_tag_buf_equality
use Rattle.langtag.specs.contracts.typed_lang_tag.TypedLangTagPartialEq.TheImpl as typed_lang_tag_equality
use Rattle.langtag.specs.declared.typed_lang_tag.TypedLangTag.{TypedLangTag}
use Rattle.langtag.specs.declared.typed_lang_tag.TypedLangTag.TheVariants.{Normal, PrivateUse, Grandfathered}
use Rattle.langtag_private.specs.Text.{private_use_text}
use Rattle.langtag.specs.Registered.{index_of}
use Rattle.langtag.specs.Text.{normal_lang_tag_text, normal_lang_tag_buf_text, lang_tag_text, lang_tag_buf_text}

abbrev pub LangTagsCompareByCase : Type 0
LangTagsCompareByCase =
    ComparesByCase lang_tag_text lang_tag_equality.eq-value.it lang_tag_order.cmp-value.it lang_tag_hash.hash_input-value.it

abbrev pub LangTagBufsCompareByCase : Type 0
LangTagBufsCompareByCase =
    ComparesByCase lang_tag_buf_text lang_tag_buf_equality.eq-value.it lang_tag_buf_order.cmp-value.it lang_tag_buf_hash.hash_input-value.it

abbrev pub NormalLangTagsCompareByCase : Type 0
NormalLangTagsCompareByCase =
    ComparesByCase normal_lang_tag_text normal_lang_tag_equality.eq-value.it normal_lang_tag_order.cmp-value.it normal_lang_tag_hash.hash_input-value.it

abbrev pub NormalLangTagBufsCompareByCase : Type 0
NormalLangTagBufsCompareByCase =
    ComparesByCase normal_lang_tag_buf_text normal_lang_tag_buf_equality.eq-value.it normal_lang_tag_buf_order.cmp-value.it normal_lang_tag_buf_hash.hash_input-value.it

-- two typed tags are equal if they have the same kind and their texts are alike; for two irregular tags, their indices
-- have to be equal
abbrev pub are_equal_typed : TypedLangTag → TypedLangTag → Bool
are_equal_typed (Normal a) (Normal b) = are_alike (normal_lang_tag_text a) (normal_lang_tag_text b)
are_equal_typed (PrivateUse a) (PrivateUse b) = are_alike (private_use_text a) (private_use_text b)
are_equal_typed (Grandfathered a) (Grandfathered b) = index_of a == index_of b
are_equal_typed a b = false

abbrev pub TypedLangTagsCompareByKind : Type 0
TypedLangTagsCompareByKind = (a b : TypedLangTag) → typed_lang_tag_equality.eq-value.it a b ≡ are_equal_typed a b
