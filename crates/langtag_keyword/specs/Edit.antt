-- Setting and removing keywords of the extension `u` (RFC 6067 section 2.1; UTS #35, part 1, section 'U Extension').
use Rattle.std.specs.Prelude.{◌≡◌, ℕ, ◌+◌, Bool, true, false, ◌&&◌, List, [], ◌∷◌, ◌++◌, Option, None, Some, if◌then◌else◌, find, leb, length, map, nat_lt, unwrap_or, is_some, option_map}
use Rattle.langtag_scan.specs.Grammar.{are_alike, fold_byte, fold_text, is_alphanumeric, is_extension_subtag, is_letter, Extension, Record, join, subtags}
use Rattle.langtag_extension.specs.Spelling.{find_extension}
use Rattle.langtag_keyword.specs.declared.keyword_error.KeywordError.{KeywordError}
use Rattle.langtag_keyword.specs.declared.keyword_error.KeywordError.TheVariants.{Key, Value}
use Rattle.langtag_keyword.specs.Form.{is_before, is_of, unicode_value}
use Rattle.langtag_keyword.specs.Keywords.{is_key}

-- ---- which keys and values may be set

-- ukey = alphanum alpha (UTS #35, part 1)
abbrev pub is_unicode_key : List ℕ → Bool
is_unicode_key (first ∷ second ∷ []) = is_alphanumeric first && is_letter second
is_unicode_key text = false

-- whether a subtag may be in a value, uvalue = 3*8alphanum (UTS #35, part 1): it is a subtag of an extension with three
-- characters or more
abbrev pub is_type : List ℕ → Bool
is_type subtag = leb 3 (length subtag) && is_extension_subtag subtag

-- the offset of the first subtag that may not be in a value, or `None`; the first of all subtags begins at the given
-- offset
abbrev pub invalid_type_from : ℕ → List (List ℕ) → Option ℕ
invalid_type_from offset [] = None
invalid_type_from offset (subtag ∷ subtags) = if is_type subtag then invalid_type_from (offset + (length subtag + 1)) subtags else Some offset

abbrev pub invalid_type : List (List ℕ) → Option ℕ
invalid_type subtags = invalid_type_from 0 subtags

-- why a key and a value cannot be a keyword, or `None` if they can
abbrev pub keyword_error : List ℕ → List (List ℕ) → Option KeywordError
keyword_error key value = if is_unicode_key key then option_map Value (invalid_type value) else Some Key

-- whether a keyword is in canonical form: its key in lowercase, with a value that is its own canonical form
abbrev pub IsCanonicalKeyword : List ℕ → List (List ℕ) → Type 0
IsCanonicalKeyword key value = (fold_text key ≡ key) × (map fold_text (subtags (unicode_value key (join value))) ≡ value)

-- ---- the subtags of `u`

-- whether a subtag is the given key, ignoring case
abbrev pub is_this_key : List ℕ → List ℕ → Bool
is_this_key key subtag = is_key subtag && are_alike subtag key

-- whether a subtag belongs to a keyword of a key: it is that key, or it is not a key and the subtag before it belongs
-- to such a keyword
abbrev pub belongs : List ℕ → Bool → List ℕ → Bool
belongs key inside subtag = if is_key subtag then are_alike subtag key else inside

-- the subtags without the keywords of a key; `inside` says whether the subtag before them belongs to such a keyword
abbrev pub without_within : List ℕ → Bool → List (List ℕ) → List (List ℕ)
without_within key inside [] = []
without_within key inside (subtag ∷ subtags) =
    if belongs key inside subtag then without_within key true subtags else subtag ∷ without_within key false subtags

-- without the keywords of a key
abbrev pub without_keyword : List ℕ → List (List ℕ) → List (List ℕ)
without_keyword key subtags = without_within key false subtags

-- whether a keyword is put at this subtag: at its key or, if the key is absent, before the first greater key
abbrev pub is_place : List ℕ → Bool → List ℕ → Bool
is_place key stands subtag = is_key subtag && (if stands then are_alike subtag key else is_before (fold_text key) (fold_text subtag))

-- the subtags with a keyword put before its key or the first greater key, or at the end; all other keywords of its key
-- are removed
abbrev pub put_keyword : List ℕ → Bool → List (List ℕ) → List (List ℕ) → List (List ℕ)
put_keyword key stands keyword [] = keyword
put_keyword key stands keyword (subtag ∷ subtags) =
    if is_place key stands subtag then keyword ++ without_keyword key (subtag ∷ subtags) else subtag ∷ put_keyword key stands keyword subtags

-- the subtags with this value of a key; if the key already occurs, it keeps its case
abbrev pub with_keyword : List ℕ → List (List ℕ) → List (List ℕ) → List (List ℕ)
with_keyword key value subtags =
    let standing : Option (List ℕ) = find (is_this_key key) subtags in
    put_keyword key (is_some standing) (unwrap_or standing key ∷ value) subtags

-- the subtags with this value of a key, or without the key
abbrev pub edited : List ℕ → Option (List (List ℕ)) → List (List ℕ) → List (List ℕ)
edited key None subtags = without_keyword key subtags
edited key (Some value) subtags = with_keyword key value subtags

-- ---- the extensions of a tag

-- an extension with these subtags, or no extension if there are no subtags
abbrev pub extension_of : ℕ → List (List ℕ) → List Extension
extension_of singleton [] = []
extension_of singleton (subtag ∷ subtags) = record { singleton = singleton; subtags = subtag ∷ subtags } ∷ []

-- whether `u` is put at this extension: at the first `u` or, if there is none, before the first extension with a
-- greater singleton
abbrev pub is_place_of_u : Bool → Extension → Bool
is_place_of_u stands e = if stands then is_of 117 e else nat_lt 117 (fold_byte e.singleton)

-- `change` maps the subtags of `u` to its new subtags; if there is no `u`, it is applied to the empty list
module _ (change : List (List ℕ) → List (List ℕ)) where
  -- the extensions that replace this extension
  abbrev pub at_place : Bool → Extension → List Extension
  at_place stands e = if stands then extension_of e.singleton (change e.subtags) else extension_of 117 (change []) ++ e ∷ []

  abbrev pub changed_from : Bool → List Extension → List Extension
  changed_from stands [] = extension_of 117 (change [])
  changed_from stands (e ∷ es) = if is_place_of_u stands e then at_place stands e ++ es else e ∷ changed_from stands es

  abbrev pub with_changed_u : List Extension → List Extension
  with_changed_u es = changed_from (is_some (find_extension 117 es)) es

-- ---- the record

-- the record with this value of a key in `u`, or without the key
unfoldable pub edited_record : List ℕ → Option (List (List ℕ)) → Record → Record
edited_record key value r = record r { extensions = with_changed_u (edited key value) r.extensions }
