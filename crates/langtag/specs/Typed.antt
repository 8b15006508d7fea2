-- Language tags as typed values, with one type for each kind (RFC 5646 section 2.1).
use Rattle.std.specs.Prelude.{◌≡◌, ℕ, List, Option, Some, None, option_map}
use Rattle.langtag_scan.specs.Grammar.{language_part, EachRecord, IsIrregularAt}
use Rattle.langtag_language.specs.Text.{language_text}
use Rattle.langtag_language.specs.declared.language.Language.{Language}
use Rattle.langtag_private.specs.Text.{private_use_text}
use Rattle.langtag_private.specs.declared.private_use.PrivateUse.{PrivateUse as PrivateUsePart}
use Rattle.langtag.specs.declared.grandfathered.GrandfatheredLangTag.{GrandfatheredLangTag}
use Rattle.langtag.specs.declared.kind.Kind as kind
use Rattle.langtag.specs.declared.kind.Kind.TheVariants as kinds
use Rattle.langtag.specs.declared.normal_lang_tag.NormalLangTag.{NormalLangTag}
use Rattle.langtag.specs.declared.typed_lang_tag.TypedLangTag.{TypedLangTag}
use Rattle.langtag.specs.declared.typed_lang_tag.TypedLangTag.TheVariants.{Normal, PrivateUse, Grandfathered}
use Rattle.langtag.specs.Registered.{index_of, language_of}
use Rattle.langtag.specs.Text.{normal_lang_tag_text}

-- the typed tag represents the text: it contains the same text, or the text equals the irregular tag at the variant's
-- index, ignoring case
abbrev pub IsTypedAs : List ℕ → TypedLangTag → Type 0
IsTypedAs text (Normal tag) = normal_lang_tag_text tag ≡ text
IsTypedAs text (PrivateUse tag) = private_use_text tag ≡ text
IsTypedAs text (Grandfathered tag) = IsIrregularAt (index_of tag) text

-- the kind of a typed tag
abbrev pub kind_of_tag : TypedLangTag → kind.Kind
kind_of_tag (Normal tag) = kinds.Normal
kind_of_tag (PrivateUse tag) = kinds.PrivateUse
kind_of_tag (Grandfathered tag) = kinds.Grandfathered

-- the normal tag, or none
abbrev pub normal_of : TypedLangTag → Option NormalLangTag
normal_of (Normal tag) = Some tag
normal_of (PrivateUse tag) = None
normal_of (Grandfathered tag) = None

-- the private use tag, or none
abbrev pub private_use_of : TypedLangTag → Option PrivateUsePart
private_use_of (Normal tag) = None
private_use_of (PrivateUse tag) = Some tag
private_use_of (Grandfathered tag) = None

-- the irregular grandfathered tag, or none
abbrev pub grandfathered_of : TypedLangTag → Option GrandfatheredLangTag
grandfathered_of (Normal tag) = None
grandfathered_of (PrivateUse tag) = None
grandfathered_of (Grandfathered tag) = Some tag

-- the language of a typed tag: the tag's own language for a normal tag, none for a private use tag, and the language in
-- the table for a grandfathered tag
abbrev pub HasLanguage : TypedLangTag → Option Language → Type 0
HasLanguage (Normal tag) language = EachRecord (normal_lang_tag_text tag) (λ r. option_map language_text language ≡ Some (language_part r))
HasLanguage (PrivateUse tag) language = language ≡ None
HasLanguage (Grandfathered tag) language = option_map language_text language ≡ language_of tag
