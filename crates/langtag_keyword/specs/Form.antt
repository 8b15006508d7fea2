-- The canonical form of the extensions `u` and `t` (UTS #35, part 1, section 'Unicode Locale Identifier' and Annex C; RFC 6067 section
-- 2.1, RFC 6497 section 2.2).
use Rattle.std.specs.Prelude.{ℕ, Bool, true, false, not, ◌&&◌, ◌||◌, ◌==◌, leb, List, [], ◌∷◌, ◌++◌, length, map, codes, if◌then◌else◌, unwrap_or, filter, flat_map}
use Rattle.langtag_scan.specs.Prelude.{list_any, option_map_or, is_lt, nat_cmp, slice_cmp}
use Rattle.langtag_scan.specs.Grammar.{are_alike, fold_byte, fold_text, is_primary, is_region, is_script, is_variant, Extension, Record, join, subtags}
use Rattle.langtag_text.specs.Alias.{alias_for, type_alias_for}
use Rattle.langtag_keyword.specs.Aliases.{subdivision_aliases, transform_type_aliases, unicode_type_aliases}
use Rattle.langtag_keyword.specs.Keywords.{before_key, is_key, value_of}
use Rattle.langtag_keyword.specs.Transform.{is_field_key}

-- ---- alphabetical order

-- whether a text comes before another, as `foo` comes before `foobar`
abbrev pub is_before : List ℕ → List ℕ → Bool
is_before a b = is_lt (slice_cmp nat_cmp a b)

-- the list with a text inserted in alphabetical order, unless the list already contains the text
abbrev pub put_among : List ℕ → List (List ℕ) → List (List ℕ)
put_among text [] = text ∷ []
put_among text (first ∷ others) =
    if is_before text first then text ∷ first ∷ others else if is_before first text then first ∷ put_among text others else first ∷ others

-- the texts in lowercase, each once, in alphabetical order
abbrev pub in_alphabet : List (List ℕ) → List (List ℕ)
in_alphabet [] = []
in_alphabet (text ∷ others) = put_among (fold_text text) (in_alphabet others)

-- ---- the value of a key

-- a value of `u`, or its replacement if it is a type that CLDR replaces
unfoldable pub unicode_type : List ℕ → List ℕ → List ℕ
unicode_type key value = unwrap_or (type_alias_for unicode_type_aliases key value) value

-- a value of `rg` or `sd`, or its replacement if it is a subdivision that CLDR replaces
unfoldable pub subdivision : List ℕ → List ℕ
subdivision value = unwrap_or (alias_for subdivision_aliases value) value

abbrev pub has_subdivision : List ℕ → Bool
has_subdivision key = are_alike key (codes "rg") || are_alike key (codes "sd")

-- a value, or the empty text for `true`: a key without a value means `true`
abbrev pub without_true : List ℕ → List ℕ
without_true value = if are_alike value (codes "true") then [] else value

abbrev pub unicode_value : List ℕ → List ℕ → List ℕ
unicode_value key value = without_true (if has_subdivision key then subdivision value else unicode_type key value)

-- a value of `t`, or its replacement if it is a type that CLDR replaces
unfoldable pub transform_value : List ℕ → List ℕ → List ℕ
transform_value key value = unwrap_or (type_alias_for transform_type_aliases key value) value

-- ---- keywords and fields, sorted by their keys

-- the keys in lowercase, each once, in alphabetical order
abbrev pub keys_in_order : (List ℕ → Bool) → List (List ℕ) → List (List ℕ)
keys_in_order opens ss = in_alphabet (filter opens ss)

-- `opens` says which subtags are keys, and `canonical_value` gives the canonical value of a key
module _ (opens : List ℕ → Bool) (canonical_value : List ℕ → List ℕ → List ℕ) where
  -- a key and the canonical form of its first value, in lowercase; nothing if the key is absent
  abbrev pub keyword_form : List (List ℕ) → List ℕ → List (List ℕ)
  keyword_form ss key = option_map_or (λ value. key ∷ map fold_text (subtags (canonical_value key (join value)))) (value_of opens key ss) []

  -- all keys with their values
  abbrev pub keywords_form : List (List ℕ) → List (List ℕ)
  keywords_form ss = flat_map (keyword_form ss) (keys_in_order opens ss)

-- ---- the extension u

-- the form of `u`: its attributes and then its keywords, each once, in order
abbrev pub unicode_form : List (List ℕ) → List (List ℕ)
unicode_form ss = in_alphabet (before_key is_key ss) ++ keywords_form is_key unicode_value ss

-- ---- the extension t

-- unicode_language_subtag = 2*3ALPHA / 5*8ALPHA
abbrev pub is_unicode_language : List ℕ → Bool
is_unicode_language s = is_primary s && not (length s == 4)

-- the first subtag if it is of a class (`one_of`), and the subtags after it (`after_one`)
abbrev pub one_of : (List ℕ → Bool) → List (List ℕ) → List (List ℕ)
one_of test [] = []
one_of test (s ∷ ss) = if test s then s ∷ [] else []

abbrev pub after_one : (List ℕ → Bool) → List (List ℕ) → List (List ℕ)
after_one test [] = []
after_one test (s ∷ ss) = if test s then ss else s ∷ ss

-- whether all subtags are variants, and no two are equal, ignoring case
abbrev pub are_different_variants : List (List ℕ) → Bool
are_different_variants [] = true
are_different_variants (v ∷ vs) = is_variant v && not (list_any (are_alike v) vs) && are_different_variants vs

-- whether the subtags are a unicode_language_id that does not begin with a script: a language, with an optional script,
-- region and variants
abbrev pub is_language_id : List (List ℕ) → Bool
is_language_id [] = false
is_language_id (s ∷ ss) = is_unicode_language s && are_different_variants (after_one is_region (after_one is_script ss))

-- a unicode_language_id in lowercase, with its variants in order
abbrev pub language_form : List (List ℕ) → List (List ℕ)
language_form [] = []
language_form (s ∷ ss) =
    fold_text s
    ∷ (map fold_text (one_of is_script ss)
    ++ (map fold_text (one_of is_region (after_one is_script ss)) ++ in_alphabet (after_one is_region (after_one is_script ss))))

-- whether a subtag may follow the subtags before it: a key must not follow another key directly, and any other subtag
-- within a field must have three characters or more
abbrev pub may_follow : Bool → Bool → List ℕ → Bool
may_follow in_fields after_key s = if is_field_key s then not after_key else not in_fields || leb 3 (length s)

-- whether the subtags are fields, each of which has a value
abbrev pub are_fields : Bool → Bool → List (List ℕ) → Bool
are_fields in_fields after_key [] = not after_key
are_fields in_fields after_key (s ∷ ss) = may_follow in_fields after_key s && are_fields (in_fields || is_field_key s) (is_field_key s) ss

-- whether the subtags before the fields are a unicode_language_id, or there are no such subtags
abbrev pub is_language_or_none : List (List ℕ) → Bool
is_language_or_none [] = true
is_language_or_none (s ∷ ss) = is_language_id (s ∷ ss)

-- whether the subtags are well-formed transformed_extensions (UTS #35, part 1)
abbrev pub is_transform : List (List ℕ) → Bool
is_transform ss = is_language_or_none (before_key is_field_key ss) && are_fields false false ss

-- the form of `t`: its language and then its fields, each once, in order
abbrev pub transform_form : List (List ℕ) → List (List ℕ)
transform_form ss = language_form (before_key is_field_key ss) ++ keywords_form is_field_key transform_value ss

-- ---- the tag

-- whether an extension begins with a singleton, ignoring case
abbrev pub is_of : ℕ → Extension → Bool
is_of singleton e = fold_byte e.singleton == singleton

-- the form of an extension: the first `u` gets the form of `u`, and the first `t` gets the form of `t` if it is
-- well-formed; any other extension stays unchanged
abbrev pub extension_form : Bool → Bool → Extension → Extension
extension_form after_u after_t e =
    if is_of 117 e && not after_u then record { singleton = 117; subtags = unicode_form e.subtags }
    else if is_of 116 e && not after_t && is_transform e.subtags then record { singleton = 116; subtags = transform_form e.subtags }
    else e

-- the forms of extensions; the two flags say whether a `u` and a `t` came before
abbrev pub forms_after : Bool → Bool → List Extension → List Extension
forms_after after_u after_t [] = []
forms_after after_u after_t (e ∷ es) = extension_form after_u after_t e ∷ forms_after (after_u || is_of 117 e) (after_t || is_of 116 e) es

-- the record with its extensions in their forms
unfoldable pub extensions_record : Record → Record
extensions_record r = record r { extensions = forms_after false false r.extensions }
