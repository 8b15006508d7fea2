-- The classes of subtags (RFC 5646 section 2.1). Letters and digits are ASCII letters and ASCII digits. The comments
-- give the rule of the grammar for each class.
use Rattle.std.specs.Prelude.{◌≡◌, ◌≤◌, ℕ, Bool, true, false, not, ◌&&◌, ◌||◌, ◌==◌, List, [], ◌∷◌, length}
use Rattle.langtag_scan.specs.Prelude.{is_ascii_alphabetic, is_ascii_digit, is_in_range, list_all}

-- ALPHA: an ASCII letter
unfoldable pub is_letter : ℕ → Bool
is_letter b = is_ascii_alphabetic b

-- DIGIT: an ASCII digit
unfoldable pub is_digit : ℕ → Bool
is_digit b = is_ascii_digit b

-- alphanum: an ASCII letter or digit
abbrev pub is_alphanumeric : ℕ → Bool
is_alphanumeric b = is_letter b || is_digit b

-- each byte is a letter
abbrev pub are_letters : List ℕ → Bool
are_letters s = list_all is_letter s

-- each byte is a digit
abbrev pub are_digits : List ℕ → Bool
are_digits s = list_all is_digit s

-- each byte is a letter or a digit
abbrev pub are_alphanumeric : List ℕ → Bool
are_alphanumeric s = list_all is_alphanumeric s

-- a subtag of any class: one to eight letters and digits
pub record IsSubtag (s : List ℕ) : Type 0 where
  pub some : 1 ≤ length s
  pub short : length s ≤ 8
  pub alphanumeric : are_alphanumeric s ≡ true

-- a text has at least `low` bytes, and at most `high` bytes
abbrev pub has_length : ℕ → ℕ → List ℕ → Bool
has_length low high s = is_in_range low high (length s)

abbrev pub starts_with_digit : List ℕ → Bool
starts_with_digit [] = false
starts_with_digit (b ∷ s) = is_digit b

-- a primary language subtag: 2*3ALPHA / 4ALPHA / 5*8ALPHA, which is two to eight letters
unfoldable pub is_primary : List ℕ → Bool
is_primary s = has_length 2 8 s && are_letters s

-- an extended language subtag: 3ALPHA, which is three letters
unfoldable pub is_extended : List ℕ → Bool
is_extended s = (length s == 3) && are_letters s

-- a script: 4ALPHA, which is four letters
unfoldable pub is_script : List ℕ → Bool
is_script s = (length s == 4) && are_letters s

-- a region: 2ALPHA / 3DIGIT, which is two letters or three digits
unfoldable pub is_region : List ℕ → Bool
is_region s = ((length s == 2) && are_letters s) || ((length s == 3) && are_digits s)

-- a variant: 5*8alphanum / (DIGIT 3alphanum), which is five to eight letters and digits, or a digit and three letters
-- or digits
unfoldable pub is_variant : List ℕ → Bool
is_variant s = (has_length 5 8 s && are_alphanumeric s) || ((length s == 4) && are_alphanumeric s && starts_with_digit s)

-- a subtag of an extension: 2*8alphanum, which is two to eight letters and digits
unfoldable pub is_extension_subtag : List ℕ → Bool
is_extension_subtag s = has_length 2 8 s && are_alphanumeric s

-- a subtag of a private use part: 1*8alphanum, which is one to eight letters and digits
unfoldable pub is_private_subtag : List ℕ → Bool
is_private_subtag s = has_length 1 8 s && are_alphanumeric s

-- the byte that begins a private use part: "x", in either case
unfoldable pub is_mark : ℕ → Bool
is_mark b = (b == 120) || (b == 88)

-- a singleton: a letter or digit other than "x", in either case
unfoldable pub is_singleton : ℕ → Bool
is_singleton b = is_alphanumeric b && not (is_mark b)

-- whether a subtag has one byte: it is a singleton, or the mark of a private use part
abbrev pub is_single : List ℕ → Bool
is_single s = length s == 1
