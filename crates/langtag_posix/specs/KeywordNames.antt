-- The keywords of a locale name, `key=type` with semicolons between them, as ICU and Apple's systems write them after `@`. They
-- are the extension `u` of the tag (UTS #35, part 1).
use Rattle.std.specs.Prelude.{ℕ, ◌==◌, ◌&&◌, Bool, List, [], ◌∷◌, ◌++◌, codes, flat_map, unwrap_or, if◌then◌else◌}
use Rattle.langtag_scan.specs.Prelude.{after_first, before_first, list_all, slice_split}
use Rattle.langtag_scan.specs.Grammar.{is_hyphen}
use Rattle.langtag_text.specs.Words.{words}
use Rattle.langtag_text.specs.Alias.{Alias, TypeAlias, alias_for, aliases_of, type_alias_for, type_aliases_of}
use Rattle.langtag_keyword.specs.Edit.{is_type, is_unicode_key}

abbrev pub is_semicolon : ℕ → Bool
is_semicolon b = b == 59

abbrev pub is_equals : ℕ → Bool
is_equals b = b == 61

-- ---- names of keys and types

-- ICU's names of keys, and the keys, from CLDR's common/bcp47 (the attribute `alias`)
unfoldable pub key_names : List Alias
key_names =
    flat_map (λ text. aliases_of (words text))
    (codes "calendar ca collation co currency cu hours hc colAlternate ka colBackwards kb colCaseLevel kc colCaseFirst kf colHiraganaQuaternary kh"
    ∷ codes "colNormalization kk colNumeric kn colReorder kr colStrength ks measure ms numbers nu timezone tz variableTop vt"
    ∷ [])

-- ICU's names of types that cannot stand in a tag: a key, the name, and the type
unfoldable pub type_names : List TypeAlias
type_names =
    flat_map (λ text. type_aliases_of (words text))
    (codes "ca gregorian gregory co dictionary dict co gb2312han gb2312 co phonebook phonebk co traditional trad ka non-ignorable noignore"
    ∷ codes "kb no false kc no false kf no false kh no false kk no false kn no false ks secondary level2 ks quaternary level4"
    ∷ codes "ks quarternary level4 ks identical identic nu traditional traditio"
    ∷ [])

-- the key that a name means, ignoring case; another name is itself the key
unfoldable pub key_named : List ℕ → List ℕ
key_named name = unwrap_or (alias_for key_names name) name

-- the type of a key that a name means, ignoring case; another name is itself the type
unfoldable pub type_named : List ℕ → List ℕ → List ℕ
type_named key name = unwrap_or (type_alias_for type_names key name) name

-- ---- keywords

-- the key and the type of a keyword
abbrev pub key_of : List ℕ → List ℕ
key_of keyword = key_named (before_first is_equals keyword)

abbrev pub type_of : List ℕ → List ℕ
type_of keyword = type_named (key_of keyword) (after_first is_equals keyword)

-- whether a text consists of types: three to eight letters or digits, with hyphens between them
abbrev pub are_types : List ℕ → Bool
are_types text = list_all is_type (slice_split is_hyphen text)

-- whether a keyword can be read
abbrev pub is_keyword : List ℕ → Bool
is_keyword keyword = is_unicode_key (key_of keyword) && are_types (type_of keyword)

-- a keyword as subtags, each after a hyphen
abbrev pub keyword_text : List ℕ → List ℕ
keyword_text keyword = 45 ∷ key_of keyword ++ 45 ∷ type_of keyword

-- whether a modifier consists of keywords that can be read
abbrev pub are_keywords : List ℕ → Bool
are_keywords modifier = list_all is_keyword (slice_split is_semicolon modifier)

-- the keywords of a modifier as subtags, each after a hyphen
abbrev pub keyword_texts : List ℕ → List ℕ
keyword_texts modifier = flat_map keyword_text (slice_split is_semicolon modifier)

-- the extension `u` with the keywords of a modifier, in their order, after a hyphen; any other modifier has none
abbrev pub keywords_text : List ℕ → List ℕ
keywords_text modifier = if are_keywords modifier then codes "-u" ++ keyword_texts modifier else []
