-- Language ranges (RFC 4647 section 2).
use Rattle.std.specs.Prelude.{ℕ, Bool, false, ◌&&◌, ◌||◌, List, [], ◌∷◌, bytes_eq}
use Rattle.langtag_scan.specs.Grammar.{list_all, has_length, are_letters, is_private_subtag, subtags}

-- "*"
abbrev pub is_star : List ℕ → Bool
is_star text = bytes_eq text (42 ∷ [])

-- 1*8ALPHA
abbrev pub is_first_subtag : List ℕ → Bool
is_first_subtag subtag = has_length 1 8 subtag && are_letters subtag

-- 1*8alphanum / "*"
abbrev pub is_range_subtag : List ℕ → Bool
is_range_subtag subtag = is_star subtag || is_private_subtag subtag

abbrev pub are_range_subtags : List (List ℕ) → Bool
are_range_subtags others = list_all is_range_subtag others

-- extended-language-range = (1*8ALPHA / "*") *("-" (1*8alphanum / "*")) (section 2.2), as a test of its subtags
abbrev pub are_extended_range : List (List ℕ) → Bool
are_extended_range [] = false
are_extended_range (first ∷ others) = (is_star first || is_first_subtag first) && are_range_subtags others

-- whether a text is a language range; each basic range is an extended range, too
abbrev pub is_language_range : List ℕ → Bool
is_language_range text = are_extended_range (subtags text)

abbrev pub are_basic_subtags : List (List ℕ) → Bool
are_basic_subtags others = list_all is_private_subtag others

-- 1*8ALPHA *("-" 1*8alphanum), as a test of its subtags
abbrev pub are_basic_range : List (List ℕ) → Bool
are_basic_range [] = false
are_basic_range (first ∷ others) = is_first_subtag first && are_basic_subtags others

-- language-range = (1*8ALPHA *("-" 1*8alphanum)) / "*" (section 2.1)
abbrev pub is_basic_range : List ℕ → Bool
is_basic_range text = is_star text || are_basic_range (subtags text)
