-- The language and the fields of the extension `t` (RFC 6497 section 2.2; UTS #35, part 1, section 'T Extension'), as
-- lists of subtags. The language is the language of the text before it was transformed. A field is a key and its value.
use Rattle.std.specs.Prelude.{ℕ, Bool, false, ◌&&◌, List, [], ◌∷◌, Option, None, Some}
use Rattle.langtag_scan.specs.Grammar.{is_letter, is_digit, join}
use Rattle.langtag_keyword.specs.Keywords.{before_key}

-- tkey = ALPHA DIGIT
abbrev pub is_field_key : List ℕ → Bool
is_field_key (letter ∷ digit ∷ []) = is_letter letter && is_digit digit
is_field_key subtag = false

-- a text, or `None` if it is empty
abbrev pub some_text : List ℕ → Option (List ℕ)
some_text [] = None
some_text (b ∷ text) = Some (b ∷ text)

-- the language, which is the text before the first field, or `None` if this text is empty
abbrev pub transform_language : List (List ℕ) → Option (List ℕ)
transform_language subtags = some_text (join (before_key is_field_key subtags))
