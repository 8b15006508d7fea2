-- The texts of language ranges: they are ASCII, each basic range is a range, and what stays of a range without its "*".
use Rattle.langtag_scan.proofs.Prelude.{◌≡◌, Bool, true, ℕ, List, [], ◌∷◌, refl, arith, ◌∙◌, ◌<◌, false, eqb, ◌||◌, ◌≤◌, not, ◌++◌, length, inl, inr, list_all, before_first, list_any, AllByRecursion, and_parts, or_cases, or_right, bytes_eq-Decides, common_steps, nat_tests, IsUtf8-from_ascii, All-from_recursion, filter, IsAscii, IsUtf8}
use Rattle.langtag_scan.specs.Grammar.{subtags, segments, IsHyphenFree, join, is_letter, is_digit, is_alphanumeric, is_private_subtag, has_length, are_alphanumeric, Alike, fold_text}
use Rattle.langtag_range.specs.Definitions.{is_star, is_language_range, are_basic_range, is_basic_range, is_range_subtag, are_extended_range, is_first_subtag, are_basic_subtags, are_range_subtags, ends_locale, is_hash, locale_place, hyphened, hyphened_byte, basic_text, basic_form, begins_with_wildcard}
use Rattle.langtag_scan.proofs.Laws.{IsAscii-each, hyphenated, join-hyphenated, length-join, no_hyphen_each, of_private_subtag, join-subtags, segments-join, subtags-segments}
use Rattle.langtag_range.proofs.WantedTexts.{extended_parts, first_in_range}
use Rattle.langtag_range.proofs.AlikeTexts.{hyphened-fold, mark-fold}
use Rattle.langtag_range.proofs.Among.{basic_form-byte}
use Rattle.langtag_scan.proofs.BoolFacts.{list_all-weaker}

pub is_language_range-from_basic : (text : List ℕ) → is_basic_range text ≡ true → is_language_range text ≡ true
is_language_range-from_basic text is = grind (arith, common_steps, or_cases, bytes_eq-Decides, and_parts, list_all-weaker, or_right)

pub ruleset basic_ranges = (is_language_range-from_basic)

-- ---- the bytes of a language range are letters, digits, "*" and "-". So it is ASCII, bytes that are not UTF-8 are not a range, and
-- no "_" is in it.

abbrev pub is_range_byte : ℕ → Bool
is_range_byte b = is_alphanumeric b || (eqb b 42 || eqb b 45)

subtag_bytes : (s : List ℕ) → is_range_subtag s ≡ true → list_all is_range_byte s ≡ true
unfolding is_private_subtag
subtag_bytes s is = grind (arith, common_steps, or_cases, bytes_eq-Decides s (42 ∷ []), and_parts, list_all-weaker)

segment_bytes : (text : List ℕ) → list_all (list_all is_range_byte) (segments text) ≡ true → list_all is_range_byte text ≡ true
segment_bytes [] all = refl
segment_bytes (b ∷ text) all = grind (arith, common_steps, and_parts, segment_bytes text)

pub range_bytes : (text : List ℕ) → is_language_range text ≡ true → list_all is_range_byte text ≡ true
range_bytes text is =
    grind (arith, nat_tests, segment_bytes, extended_parts, and_parts, list_all-weaker is_range_subtag (list_all is_range_byte) subtag_bytes, subtag_bytes)

below_128 : (b : ℕ) → is_range_byte b ≡ true → b < 128
unfolding is_letter is_digit
below_128 b is = grind (arith, nat_tests)

pub IsAscii-language_range : (text : List ℕ) → is_language_range text ≡ true → IsAscii text
IsAscii-language_range text is = IsAscii-each is_range_byte below_128 text (range_bytes text is)

-- so it is UTF-8
pub IsUtf8-range : (text : List ℕ) → is_language_range text ≡ true → IsUtf8 text
IsUtf8-range text is = IsUtf8-from_ascii text (IsAscii-language_range text is)

pub ruleset utf8_range = (IsUtf8-range)

pub IsUtf8-basic : (text : List ℕ) → is_basic_range text ≡ true → IsUtf8 text
IsUtf8-basic text is = IsUtf8-range text (is_language_range-from_basic text is)

pub ruleset utf8_basic = (IsUtf8-basic)

-- ---- a range has no "_", so it is read as it stands

plain_byte : (b : ℕ) → is_range_byte b ≡ true → hyphened_byte b ≡ b
unfolding is_letter is_digit
plain_byte b is = grind (arith, nat_tests)

plain_bytes : (text : List ℕ) → list_all is_range_byte text ≡ true → hyphened text ≡ text
plain_bytes [] all = refl
plain_bytes (b ∷ text) all = grind (arith, common_steps, and_parts (is_range_byte b) (list_all is_range_byte text) all, plain_byte b, plain_bytes text)

pub hyphened_range : (text : List ℕ) → is_language_range text ≡ true → hyphened text ≡ text
hyphened_range text is = plain_bytes text (range_bytes text is)

-- ---- a range, also with "_", is not cut as a locale name is

no_end : (b : ℕ) → is_range_byte (hyphened_byte b) ≡ true → ends_locale b ≡ false
unfolding is_letter is_digit
no_end b is = grind (arith, nat_tests)

no_hash : (b : ℕ) → is_range_byte (hyphened_byte b) ≡ true → is_hash b ≡ false
unfolding is_letter is_digit
no_hash b is = grind (arith, nat_tests)

pub none_in :
    (p : ℕ → Bool) → ((b : ℕ) → is_range_byte (hyphened_byte b) ≡ true → p b ≡ false) → (text : List ℕ) → list_all is_range_byte (hyphened text) ≡ true → list_any p text ≡ false
none_in p none [] all = refl
none_in p none (b ∷ text) all = grind (arith, common_steps, and_parts, none_in p none text)

pub whole_before : (p : ℕ → Bool) (text : List ℕ) → list_any p text ≡ false → before_first p text ≡ text
whole_before p [] none = refl
whole_before p (b ∷ text) none = grind (arith, common_steps, whole_before p text)

pub range_place : (text : List ℕ) → is_basic_range (hyphened text) ≡ true → locale_place text ≡ text
range_place text is = grind (arith, common_steps, range_bytes, is_language_range-from_basic, whole_before, none_in, no_end, no_hash)

-- ---- the case of letters

basic_form-fold : (text : List ℕ) → basic_form (fold_text text) ≡ fold_text (basic_form text)
basic_form-fold [] = refl
basic_form-fold (a ∷ []) = refl
basic_form-fold (a ∷ b ∷ text) = grind (arith, common_steps, basic_form-fold text, basic_form-fold (b ∷ text), mark-fold)

pub basic_text-alike : (a b : List ℕ) → Alike a b → Alike (basic_text a) (basic_text b)
unfolding basic_text
basic_text-alike a b alike = grind (arith, common_steps, basic_form-fold (hyphened a), hyphened-fold a, hyphened-fold b, basic_form-fold (hyphened b))

-- ---- subtags without "*"

-- a text with no hyphen before another stays
basic_form-free : (s t : List ℕ) → AllByRecursion (λ b. eqb b 45 ≡ false) s → basic_form (s ++ t) ≡ s ++ basic_form t
basic_form-free [] t free = refl
basic_form-free (b ∷ s) t free = grind (arith, common_steps, basic_form-byte b (s ++ t), basic_form-free s t free.1)

abbrev pub is_plain : List ℕ → Bool
is_plain subtag = not (is_star subtag)

-- a text of letters and digits is no star, and none begins behind a hyphen before it
starless : (s t : List ℕ) → is_private_subtag s ≡ true → (is_star s ≡ false) × (begins_with_wildcard (45 ∷ s ++ t) ≡ false)
unfolding is_private_subtag is_letter is_digit
starless [] t is = absurd cc
starless (b ∷ s) t is = grind (arith, common_steps, nat_tests, and_parts (has_length 1 8 (b ∷ s)) (are_alphanumeric (b ∷ s)) is, and_parts (is_alphanumeric b) (are_alphanumeric s))

subtag_free : (s : List ℕ) → is_private_subtag s ≡ true → AllByRecursion (λ b. eqb b 45 ≡ false) s
subtag_free s is = no_hyphen_each s (of_private_subtag s is).alphanumeric

basic_form-hyphenated : (ss : List (List ℕ)) → are_range_subtags ss ≡ true → basic_form (hyphenated ss) ≡ hyphenated (filter is_plain ss)
basic_form-hyphenated [] each = refl
basic_form-hyphenated (s ∷ ss) each =
    grind (arith, common_steps, and_parts (is_range_subtag s) (are_range_subtags ss) each, or_cases (is_star s) (is_private_subtag s), bytes_eq-Decides s (42 ∷ []), basic_form-hyphenated ss, starless s, basic_form-byte, basic_form-free s, subtag_free s)

-- a subtag of a range is not empty, and has no hyphen
range_free : (s : List ℕ) → is_range_subtag s ≡ true → AllByRecursion (λ b. eqb b 45 ≡ false) s × (0 < length s)
range_free s is = grind (arith, common_steps, or_cases (is_star s) (is_private_subtag s) is, bytes_eq-Decides s (42 ∷ []), subtag_free s, of_private_subtag s)

each_free : (ss : List (List ℕ)) → are_range_subtags ss ≡ true → AllByRecursion IsHyphenFree ss
each_free [] each = tt
each_free (s ∷ ss) each = grind (arith, common_steps, and_parts (is_range_subtag s) (are_range_subtags ss) each, range_free s, each_free ss)

module _ (first : List ℕ) (others : List (List ℕ)) (is : are_extended_range (first ∷ others) ≡ true) where
  each_in_range : (is_range_subtag first ≡ true) × (are_range_subtags others ≡ true)
  each_in_range = grind (arith, common_steps, and_parts (is_star first || is_first_subtag first) (are_range_subtags others) is, first_in_range first)

  -- the first subtag stays, and of the others those that are not "*"
  basic_form-join : basic_form (join (first ∷ others)) ≡ join (first ∷ filter is_plain others)
  basic_form-join = grind (arith, common_steps, join-hyphenated, basic_form-free, range_free, each_in_range, basic_form-hyphenated)

  -- the subtags of a range are found again in their join
  subtags-range : subtags (join (first ∷ others)) ≡ first ∷ others
  subtags-range =
      subtags-segments (join (first ∷ others)) (omega (arith, length-join first others, (range_free first each_in_range.0).1))
      ∙ segments-join first others (All-from_recursion IsHyphenFree (first ∷ others) (each_free (first ∷ others) (rw (each_in_range.0, each_in_range.1) refl)))

filter_range : (ss : List (List ℕ)) → are_range_subtags ss ≡ true → are_range_subtags (filter is_plain ss) ≡ true
filter_range [] each = refl
filter_range (s ∷ ss) each = grind (arith, common_steps, and_parts (is_range_subtag s) (are_range_subtags ss) each, filter_range ss)

filter_twice : (ss : List (List ℕ)) → filter is_plain (filter is_plain ss) ≡ filter is_plain ss
filter_twice [] = refl
filter_twice (s ∷ ss) = grind (arith, common_steps, filter_twice ss)

-- the basic form of a range is one with these subtags, and its own basic form
pub record IsBasicOf (text basic : List ℕ) : Type 0 where
  pub range : is_language_range basic ≡ true
  pub subtags : (first : List ℕ) (others : List (List ℕ)) → subtags text ≡ first ∷ others → subtags basic ≡ first ∷ filter is_plain others
  pub settled : basic_form basic ≡ basic

pub basic_of : (text : List ℕ) → is_language_range text ≡ true → IsBasicOf text (basic_form text)
basic_of text is = by_subtags (subtags text) refl is
  where
    by_subtags : (ss : List (List ℕ)) → subtags text ≡ ss → are_extended_range ss ≡ true → IsBasicOf text (basic_form text)
    by_subtags ss are range =
        grind (arith, common_steps, and_parts, filter_range, each_in_range, join-subtags text, basic_form-join, subtags-range, filter_twice)

-- ---- a range without "*" is its own basic form

plain_subtags : (ss : List (List ℕ)) → are_basic_subtags ss ≡ true → filter is_plain ss ≡ ss
plain_subtags [] each = refl
plain_subtags (s ∷ ss) each = grind (arith, common_steps, and_parts (is_private_subtag s) (are_basic_subtags ss) each, starless s [], plain_subtags ss)

pub basic_form-basic : (text : List ℕ) → is_basic_range text ≡ true → basic_form text ≡ text
basic_form-basic text is = elim (or_cases (is_star text) (are_basic_range (subtags text)) is) [
  | inl star ↦ rw ((bytes_eq-Decides text (42 ∷ [])).0 star) refl
  | inr plain ↦ by_subtags (subtags text) refl plain
]
  where
    by_subtags : (ss : List (List ℕ)) → subtags text ≡ ss → are_basic_range ss ≡ true → basic_form text ≡ text
    by_subtags ss are range = grind (arith, common_steps, and_parts, join-subtags text, is_language_range-from_basic text is, basic_form-join, plain_subtags)

-- ---- how long it is

pub length-basic : (text : List ℕ) → length (basic_form text) ≤ length text
length-basic [] = omega arith
length-basic (a ∷ []) = omega arith
length-basic (a ∷ b ∷ text) = grind (arith, common_steps, length-basic text, length-basic (b ∷ text))
