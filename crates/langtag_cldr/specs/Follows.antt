-- What follows the language in a tag that is not replaced as a whole. Only contracts of private functions cite this page.
use Rattle.std.specs.Prelude.{◌≡◌, ℕ, ◌==◌, ◌||◌, ◌&&◌, nat_le, Bool, true, false, not, List, [], ◌∷◌, length, slice_index_or}
use Rattle.langtag_scan.specs.Grammar.{before_first, fold_byte, is_extended, is_hyphen, is_letter}
use Rattle.langtag_range.specs.Definitions.{basic_text, is_separator}

-- whether a tag is replaced that begins with these two bytes: `ar`, `en`, `no`, `sg` or `zh`
abbrev pub begins_replaced : ℕ → ℕ → Bool
begins_replaced first second =
    ((first == 97) && (second == 114))
    || (((first == 101) && (second == 110))
    || (((first == 110) && (second == 111)) || (((first == 115) && (second == 103)) || ((first == 122) && (second == 104)))))

-- whether a byte is read as it is written: it is neither `_` nor `*`
abbrev pub is_plain_byte : ℕ → Bool
is_plain_byte b = not (b == 42) && not (b == 95)

-- whether the first subtag of a text counts, which means that it is neither empty nor "*"
abbrev pub begins_counted : List ℕ → Bool
begins_counted [] = true
begins_counted (b ∷ text) = not (is_separator b || (b == 42))

-- whether a text begins with `gb`
abbrev pub begins_british : List ℕ → Bool
begins_british text = (fold_byte (slice_index_or text 0 0) == 103) && (fold_byte (slice_index_or text 1 0) == 98)

-- whether a subtag stands at this place in no tag that is replaced, such as `zh-hakka`, `zh-min-nan` or `en-GB-oed`: it
-- begins with no letter, or it has neither three characters nor five, and is not `gb`
abbrev pub is_never_second : List ℕ → Bool
is_never_second subtag =
    not (is_letter (slice_index_or subtag 0 0))
    || (not ((length subtag == 3) || (length subtag == 5)) && not ((length subtag == 2) && begins_british subtag))

-- whether a text follows no language of two letters in a tag that is replaced, with extensions and private use or without
-- them: it has at most two characters, or its first subtag stands at this place in no such tag
abbrev pub follows_none : List ℕ → Bool
follows_none text = nat_le (length text) 2 || is_never_second (before_first is_hyphen text)

-- a text after a language of two letters that keeps this language: it begins with no extended language, and follows no
-- language in a tag that is replaced
pub record KeepsLanguage (text : List ℕ) : Type 0 where
  pub counted : begins_counted text ≡ true
  pub extended : is_extended (before_first is_separator text) ≡ false
  pub unlike : follows_none (basic_text text) ≡ true
