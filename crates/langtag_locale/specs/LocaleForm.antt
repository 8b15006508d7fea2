-- The canonical form of a Unicode locale identifier (UTS #35, part 1, Annex C, 'LocaleId Canonicalization'). The annex
-- repeats the rules of CLDR until none fits. Here they are seven steps, each of which is done once.
use Rattle.std.specs.Prelude.{◌≡◌, ℕ, Bool, List, [], ◌∷◌, ◌++◌, Option, None, Some, codes, find, if◌then◌else◌, ◌&&◌, ◌||◌, unwrap_or, flat_map, fold, is_some, option_map}
use Rattle.langtag_scan.specs.Prelude.{list_any, option_map_or}
use Rattle.langtag.specs.Definitions.{PartOf, IsGrandfathered, recommended_text, find_extension, singletons}
use Rattle.langtag_cldr.specs.Definitions.{region_replacements, add_likely, known, likely_for, or_else, or_other, likely_subtags, language_replaced, region_alone}
use Rattle.langtag_text.specs.Fields.{Fields, subtag_of}
use Rattle.langtag_fields.specs.Fields.{preferred_tag}
use Rattle.langtag_fields.specs.Registered.{is_registered_extlang}
use Rattle.langtag_scan.specs.Grammar.{Alike, are_alike, Extension, Record, one_flat, spell, segments}
use Rattle.langtag_text.specs.Alias.{Alias, TypeAlias, alias_for, type_alias_for}
use Rattle.langtag_keyword.specs.Form.{in_alphabet, is_of, keywords_form, transform_value, unicode_form}
use Rattle.langtag_keyword.specs.Keywords.{before_key}
use Rattle.langtag_likely.specs.Marked.{as_read}
use Rattle.langtag_locale.specs.Locale.{IsLocale, IsReadLocale, is_locale_record}
use Rattle.langtag_locale.specs.LocaleAliases.{dropped_variants, region_heirs, script_aliases, sign_languages, variant_aliases, variant_languages, variant_pairs, variant_regions}
use Rattle.langtag_keyword.specs.Transform.{is_field_key}
use Rattle.langtag_keyword.specs.Identifier.{identifier_flat, identifier_fields, identifier_variants}

-- ---- the language, the script and the region

-- the fields with another language
abbrev pub other_language : Fields → List ℕ → Fields
other_language f language = record { language = language; script = f.script; region = f.region }

-- the fields with another region
abbrev pub other_region : Fields → List ℕ → Fields
other_region f region = record { language = f.language; script = f.script; region = region }

-- whether a variant is among variants, ignoring case
abbrev pub has_variant : List (List ℕ) → List ℕ → Bool
has_variant variants variant = list_any (are_alike variant) variants

-- a language, or the new language if the alias has this language and one of the variants
abbrev pub language_after : List (List ℕ) → List ℕ → TypeAlias → List ℕ
language_after variants language alias = if are_alike alias.key language && has_variant variants alias.old then alias.new else language

-- the language with a variant becomes a language, by each alias that fits: `hy-arevmda` becomes `hyw`
unfoldable pub variant_language : List (List ℕ) → Fields → Fields
variant_language variants f = other_language f (fold (language_after variants) f.language variant_languages)

-- the fields of a sign language, which takes the place of `sgn` and the region
abbrev pub without_sgn : Fields → List ℕ → Fields
without_sgn f language = record { language = language; script = f.script; region = [] }

-- the language that `sgn` with a region becomes, or `None`; `sgn-NO` becomes `nsl`, as in IANA's registry, where CLDR has
-- `nsi`
abbrev pub sign_for : Fields → Option (List ℕ)
sign_for f = if are_alike f.language (codes "sgn") then alias_for sign_languages f.region else None

-- `sgn` with a region becomes a language: `sgn-DE` becomes `gsg`
unfoldable pub sign_language : Fields → Fields
sign_language f = option_map_or (without_sgn f) (sign_for f) f

-- the region for which one of the variants stands, or the empty text
abbrev pub variants_region : List (List ℕ) → List Alias → List ℕ
variants_region variants aliases = option_map_or (λ alias. alias.new) (find (λ alias. has_variant variants alias.old) aliases) []

-- a variant brings its region if there is no region: `aaland` brings `AX`
unfoldable pub variant_region : List (List ℕ) → Fields → Fields
variant_region variants f = other_region f (or_other f.region (variants_region variants variant_regions))

-- the language and the script; `und` counts as no language
abbrev pub language_and_script : Fields → Fields
language_and_script f = record { language = known (codes "und") f.language; script = f.script; region = [] }

-- the likely region of the language and the script, or the empty text
unfoldable pub likely_region : Fields → List ℕ
likely_region f = option_map_or (λ most. most.region) (add_likely likely_subtags (language_and_script f)) []

-- the likely region if it is among these regions, and otherwise the first of them
abbrev pub heir : List ℕ → List (List ℕ) → List ℕ
heir likely [] = []
heir likely (first ∷ others) = if list_any (are_alike likely) (first ∷ others) then likely else first

-- a region becomes the region that replaces it, or one of several regions: `UK` becomes `GB`, and `hy-SU` becomes `hy-AM`
unfoldable pub new_region : Fields → List ℕ
new_region f =
    unwrap_or (or_else (option_map (λ to. to.region) (likely_for region_replacements (region_alone f)))
    (option_map (λ regions. heir (likely_region f) (segments regions)) (alias_for region_heirs f.region))) f.region

-- the fields with that region
unfoldable pub with_new_region : Fields → Fields
with_new_region f = other_region f (new_region f)

-- a script becomes the script that replaces it: `Qaai` becomes `Zinh`
abbrev pub new_script : Fields → List ℕ
new_script f = unwrap_or (alias_for script_aliases f.script) f.script

-- the fields with that script
unfoldable pub with_new_script : Fields → Fields
with_new_script f = record { language = f.language; script = new_script f; region = f.region }

-- the seven steps. They replace the language, the language with a variant, and `sgn` with a region. They add the region of
-- a variant, and replace the region. They replace `sgn` again, since the new region may fit, as in `sgn-DD`, and then the
-- script
unfoldable pub identifier_form : List (List ℕ) → Fields → Fields
identifier_form variants f =
    with_new_script (sign_language (with_new_region (variant_region variants (sign_language (variant_language variants (language_replaced f))))))

-- ---- the variants

-- whether an alias replaces a variant, together with another of the variants
abbrev pub is_pair_of : List (List ℕ) → List ℕ → TypeAlias → Bool
is_pair_of variants variant alias = are_alike alias.key variant && has_variant variants alias.old

-- a variant, the variant that replaces it, or the empty text if it is left out. `language` is the language before it
-- changes with a variant
unfoldable pub variant_form : List ℕ → List (List ℕ) → List ℕ → List ℕ
variant_form language variants variant =
    if is_some (type_alias_for variant_languages language variant) || has_variant dropped_variants variant then []
    else unwrap_or (or_else (option_map (λ alias. alias.new) (find (is_pair_of variants variant) variant_pairs)) (alias_for variant_aliases variant)) variant

-- the forms of some of the variants, without those that are left out
abbrev pub forms : List ℕ → List (List ℕ) → List (List ℕ) → List (List ℕ)
forms language variants some = flat_map (λ variant. one_flat (subtag_of (variant_form language variants variant))) some

-- the variants in their forms, each once, in lowercase and in alphabetical order
abbrev pub variants_form : List ℕ → List (List ℕ) → List (List ℕ)
variants_form language variants = in_alphabet (forms language variants variants)

-- the variants of the form of a unicode_language_id
abbrev pub new_variants : List (List ℕ) → Fields → List (List ℕ)
new_variants variants f = variants_form (language_replaced f).language variants

-- ---- the extensions

-- the form of the language of `t`, or nothing if `t` has no language
abbrev pub transform_language_form : List (List ℕ) → List (List ℕ)
transform_language_form [] = []
transform_language_form (s ∷ ss) =
    let f : Fields = identifier_fields s ss in
    identifier_flat (identifier_form (identifier_variants ss) f) (new_variants (identifier_variants ss) f)

-- the form of `t`: its language and then its fields, each once, in order
abbrev pub locale_transform_form : List (List ℕ) → List (List ℕ)
locale_transform_form ss = transform_language_form (before_key is_field_key ss) ++ keywords_form is_field_key transform_value ss

-- the form of an extension: `u` and `t` have forms, and any other extension stays unchanged
abbrev pub locale_extension_form : Extension → Extension
locale_extension_form e =
    if is_of 117 e then record { singleton = 117; subtags = unicode_form e.subtags }
    else if is_of 116 e then record { singleton = 116; subtags = locale_transform_form e.subtags }
    else e

-- the form of the extension with a singleton, or nothing if there is no such extension
abbrev pub extension_at : List Extension → ℕ → List Extension
extension_at es singleton = option_map_or (λ e. locale_extension_form e ∷ []) (find_extension singleton es) []

-- the forms of all extensions, in the order of their singletons
abbrev pub extensions_in_order : List Extension → List Extension
extensions_in_order es = flat_map (extension_at es) singletons

-- ---- the tag

-- language, script and region of a record without extended languages
abbrev pub record_fields : Record → Fields
record_fields r = record { language = r.primary; script = unwrap_or r.script []; region = unwrap_or r.region [] }

-- the record with all parts in their forms
unfoldable pub locale_record : Record → Record
locale_record r =
    let form : Fields = identifier_form r.variants (record_fields r) in
    record {
      primary = form.language;
      extended = [];
      script = subtag_of form.script;
      region = subtag_of form.region;
      variants = new_variants r.variants (record_fields r);
      extensions = extensions_in_order r.extensions;
      private_use = r.private_use;
    }

-- the text of that record: the script in titlecase, the region in uppercase, and everything else in lowercase
unfoldable pub locale_text : Record → List ℕ
locale_text r = recommended_text (spell (locale_record r))

-- the form of a record, or `None` if the record is not a unicode_locale_id
abbrev pub record_form : Record → Option (List ℕ)
record_form r = if is_locale_record r then Some (locale_text r) else None

-- the form of a record as it is read: `es-US` for `es-rUS`
abbrev pub read_form : Record → Option (List ℕ)
read_form r = record_form (as_read r)

-- the form of a Unicode locale identifier; `None` for a tag that is not a Unicode locale identifier as it is read
abbrev pub IsLocaleForm : List ℕ → Option (List ℕ) → Type 0
IsLocaleForm tag form = PartOf tag read_form None form

-- the record in which the extended language, if it is registered and the only one, has replaced the language before it
-- (RFC 5646 section 4.5): `zh-yue-HK` becomes `yue-HK`
abbrev pub replace_language : List (List ℕ) → Record → Record
replace_language [] r = r
replace_language (extlang ∷ []) r = if is_registered_extlang extlang then record r { primary = extlang; extended = [] } else r
replace_language (first ∷ second ∷ others) r = r

abbrev pub extlang_replaced : Record → Record
extlang_replaced r = replace_language r.extended r

-- the form of any tag. A Unicode locale identifier, as the tag is read, gets its form. A tag with a Preferred-Value in IANA's registry gets the
-- form of that value, any other grandfathered tag has no form, and every other tag gets the form of its record after the
-- extended language has replaced the language. `None` if no Unicode locale identifier comes of it.
--
-- This is the form of the canonical form (RFC 5646 section 4.5) for all tags but those with variants such as in
-- `zh-yue-hepburn-heploc`, which gets the form of `yue-hepburn-heploc`, and those with Android's mark such as `es-rSL`,
-- whose canonical form is `rsl`
pub record IsWholeForm (tag : List ℕ) (form : Option (List ℕ)) : Type 0 where
  pub locale : IsReadLocale tag → IsLocaleForm tag form
  pub whole : (IsReadLocale tag → ⊥) → (value : List ℕ) → preferred_tag tag ≡ Some value → IsLocaleForm value form
  pub kept : (IsReadLocale tag → ⊥) → preferred_tag tag ≡ None → IsGrandfathered tag → form ≡ None
  pub parts : (IsReadLocale tag → ⊥) → preferred_tag tag ≡ None → (IsGrandfathered tag → ⊥) → PartOf tag (λ r. read_form (extlang_replaced r)) None form

-- the text is a Unicode locale identifier, and its own form
abbrev pub IsOwnForm : List ℕ → Type 0
IsOwnForm text = IsLocale text × IsWholeForm text (Some text)

-- the case of the tag changes nothing: each text that equals it, ignoring case, has this form
abbrev pub IsFormInAnyCase : List ℕ → Option (List ℕ) → Type 0
IsFormInAnyCase tag form = (other : List ℕ) (other_form : Option (List ℕ)) → Alike tag other → IsWholeForm other other_form → form ≡ other_form
