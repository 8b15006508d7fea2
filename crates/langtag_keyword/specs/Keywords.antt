-- The attributes and keywords of the extension `u` (RFC 6067 section 2.1; UTS #35, part 1, section 'U Extension'), as
-- lists of subtags. A keyword is a key and its value. The fields of the extension `t` are read in the same way (page
-- Transform).
use Rattle.std.specs.Prelude.{ℕ, Bool, ◌&&◌, ◌==◌, List, [], ◌∷◌, ◌++◌, Option, None, Some, if◌then◌else◌, find, length, not, option_map}
use Rattle.langtag_scan.specs.Grammar.{list_any, option_map_or, are_alike, Record, join}
use Rattle.langtag_extension.specs.Spelling.{find_extension}

-- the subtags of the first extension with a singleton, ignoring case, or the empty list if there is no such extension
abbrev pub subtags_of : ℕ → Record → List (List ℕ)
subtags_of singleton r = option_map_or (λ e. e.subtags) (find_extension singleton r.extensions) []

-- a key of `u` is a subtag of two characters; attributes and the subtags of values have more (RFC 6067 section 2.1)
abbrev pub is_key : List ℕ → Bool
is_key subtag = length subtag == 2

-- a key and its value, which is the text of the subtags up to the next key, or empty
pub record Keyword : Type 0 where
  pub key : List ℕ
  pub value : List ℕ

-- the value of the first keyword with a key, ignoring case
abbrev pub value_among : List ℕ → List Keyword → Option (List ℕ)
value_among key keywords = option_map (λ keyword. keyword.value) (find (λ keyword. are_alike keyword.key key) keywords)

-- `opens` says which subtags are keys
module _ (opens : List ℕ → Bool) where
  -- the subtags before the first key
  abbrev pub before_key : List (List ℕ) → List (List ℕ)
  before_key [] = []
  before_key (subtag ∷ subtags) = if opens subtag then [] else subtag ∷ before_key subtags

  -- the value of a key, ignoring case: the subtags after its first occurrence, up to the next key; `None` if the key is
  -- absent
  abbrev pub value_of : List ℕ → List (List ℕ) → Option (List (List ℕ))
  value_of key [] = None
  value_of key (subtag ∷ subtags) = if opens subtag && are_alike subtag key then Some (before_key subtags) else value_of key subtags

  -- whether a subtag is a key that equals no subtag before it, ignoring case
  abbrev pub is_new_key : List (List ℕ) → List ℕ → Bool
  is_new_key before subtag = opens subtag && not (list_any (are_alike subtag) before)

  -- the keywords that follow some subtags: each new key with its value
  abbrev pub keywords_after : List (List ℕ) → List (List ℕ) → List Keyword
  keywords_after before [] = []
  keywords_after before (subtag ∷ subtags) =
      let others : List Keyword = keywords_after (before ++ subtag ∷ []) subtags in
      if is_new_key before subtag then record { key = subtag; value = join (before_key subtags) } ∷ others else others

  -- all keywords: each key once, with its first value, since a repeated key has no meaning (RFC 6067 section 2.1)
  abbrev pub keywords_of : List (List ℕ) → List Keyword
  keywords_of subtags = keywords_after [] subtags

-- the subtags that equal no subtag before them, ignoring case
abbrev pub each_once_after : List (List ℕ) → List (List ℕ) → List (List ℕ)
each_once_after before [] = []
each_once_after before (subtag ∷ subtags) =
    let others : List (List ℕ) = each_once_after (before ++ subtag ∷ []) subtags in
    if list_any (are_alike subtag) before then others else subtag ∷ others

-- the attributes, each once
abbrev pub attributes_of : List (List ℕ) → List (List ℕ)
attributes_of subtags = each_once_after [] (before_key is_key subtags)
