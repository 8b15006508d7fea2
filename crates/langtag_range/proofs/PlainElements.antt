-- An element of a header as browsers write it: its range is read byte by byte, and its weight has one decimal place.
use Rattle.langtag_scan.proofs.Prelude.{◌≡◌, ℕ, ◌+◌, ◌-◌, ◌≤◌, ◌*◌, Bool, true, false, not, cond, ◌&&◌, nat_lt, List, [], ◌∷◌, ◌++◌, length, take, drop, reverse, ◌⊎◌, inl, inr, get_or, refl, ap, sym, ◌∙◌, arith, Some, common_steps, nat_tests, or_parts, take_while-cons, or_cases, list_all, list_any, slice_split, before_first, after_first, take_all, append-nil, append_assoc, reverse-append}
use Rattle.langtag_scan.specs.Grammar.{is_letter, is_digit, is_alphanumeric, is_private_subtag}
use Rattle.std.specs.Int.{is_in_range}
use Rattle.std.proofs.lemmas.List.{reverse-reverse}
use Rattle.std.proofs.lemmas.List.Folds.{list_any-append}
use Rattle.langtag_range.specs.Definitions.{from_first, is_space, items, is_comma, is_semicolon, trimmed, are_basic_range, are_basic_subtags, is_basic_range, hyphened, hyphened_byte, is_separator, wanted_weight, parameters, written, digits_behind, written_elements}
use Rattle.langtag_range.proofs.WantedTexts.{cut_or_whole, elements_at, nothing_written}
use Rattle.langtag_range.proofs.BasicForms.{is_language_range-from_basic, none_in, range_bytes, range_place, whole_before, is_range_byte}

-- ---- a text before and after a mark

module _ (p : ℕ → Bool) where
  before_rest : (text rest : List ℕ) → list_any p text ≡ false → before_first p (text ++ rest) ≡ text ++ before_first p rest
  before_rest [] rest free = refl
  before_rest (b ∷ text) rest free =
      let k = or_parts (p b) (list_any p text) free in
      take_while-cons (λ byte. not (p byte)) b (text ++ rest) ∙ rw k.0 (ap (λ t. b ∷ t) (before_rest text rest k.1))

  after_rest : (text rest : List ℕ) → list_any p text ≡ false → after_first p (text ++ rest) ≡ after_first p rest
  after_rest [] rest free = refl
  after_rest (b ∷ text) rest free = grind (arith, nat_tests, or_cases, after_rest text rest)

  after_none : (text : List ℕ) → list_any p text ≡ false → after_first p text ≡ []
  after_none [] free = refl
  after_none (b ∷ text) free = grind (arith, nat_tests, or_cases, after_none text)

-- ---- the subtags of a range, byte by byte

abbrev pub is_in_subtag : Bool → ℕ → Bool
is_in_subtag is_first b = cond is_first (is_letter b) (is_alphanumeric b)

-- whether a text goes on as a range does, where so many bytes of a subtag were read
abbrev pub reads_on : Bool → ℕ → List ℕ → Bool
reads_on is_first len [] = nat_lt 0 len
reads_on is_first len (b ∷ text) =
    cond (nat_lt len 8 && is_in_subtag is_first b) (reads_on is_first (len + 1) text) ((nat_lt 0 len && is_separator b) && reads_on false 0 text)

no_separator : (is_first : Bool) (b : ℕ) → is_in_subtag is_first b ≡ true → is_separator b ≡ false
unfolding is_letter is_digit
no_separator is_first b is = grind (arith, nat_tests, common_steps)

-- the rest of a subtag, and the other subtags
abbrev goes_on : Bool → ℕ → List ℕ → Bool
goes_on is_first len text =
    (is_in_range 1 8 (len + length (before_first is_separator text)) && list_all (is_in_subtag is_first) (before_first is_separator text))
    && are_basic_subtags (drop 1 (slice_split is_separator text))

front-cons : (b : ℕ) (text : List ℕ) → is_separator b ≡ false → before_first is_separator (b ∷ text) ≡ b ∷ before_first is_separator text
front-cons b text other = before_rest is_separator (b ∷ []) text (rw other refl)

others-cons : (b : ℕ) (text : List ℕ) → is_separator b ≡ false → drop 1 (slice_split is_separator (b ∷ text)) ≡ drop 1 (slice_split is_separator text)
others-cons b text other = grind (arith, nat_tests, cut_or_whole is_separator text)

reads_on-goes_on : (is_first : Bool) (len : ℕ) (text : List ℕ) → len ≤ 8 → reads_on is_first len text ≡ goes_on is_first len text
unfolding is_private_subtag
reads_on-goes_on is_first len [] few = grind (arith, nat_tests)
reads_on-goes_on is_first len (b ∷ text) few =
    by_class (is_separator b) (is_in_subtag is_first b) refl refl (reads_on-goes_on false 0 text (omega arith)) (reads_on-goes_on is_first (len + 1) text)
  where
    by_class :
        (s i : Bool) → is_separator b ≡ s → is_in_subtag is_first b ≡ i → reads_on false 0 text ≡ goes_on false 0 text →
        (len + 1 ≤ 8 → reads_on is_first (len + 1) text ≡ goes_on is_first (len + 1) text) → reads_on is_first len (b ∷ text) ≡ goes_on is_first len (b ∷ text)
    by_class true true separator is next more = grind (arith, common_steps, no_separator is_first b is)
    by_class true false separator other next more = grind (arith, nat_tests, cut_or_whole is_separator text)
    by_class false true other is next more = grind (arith, nat_tests, front-cons b text other, others-cons b text other)
    by_class false false other none next more = grind (arith, nat_tests, front-cons b text other, others-cons b text other)

pub reads_subtags : (text : List ℕ) → reads_on true 0 text ≡ are_basic_range (slice_split is_separator text)
reads_subtags text = grind (arith, nat_tests, reads_on-goes_on true 0 text, cut_or_whole is_separator text)

-- ---- a range has no mark and no space

unmarked : (p : ℕ → Bool) → ((b : ℕ) → is_range_byte (hyphened_byte b) ≡ true → p b ≡ false) → (range : List ℕ) → is_basic_range (hyphened range) ≡ true → list_any p range ≡ false
unmarked p none range is = none_in p none range (range_bytes (hyphened range) (is_language_range-from_basic (hyphened range) is))

no_comma : (b : ℕ) → is_range_byte (hyphened_byte b) ≡ true → is_comma b ≡ false
unfolding is_letter is_digit
no_comma b is = grind (arith, nat_tests)

no_semicolon : (b : ℕ) → is_range_byte (hyphened_byte b) ≡ true → is_semicolon b ≡ false
unfolding is_letter is_digit
no_semicolon b is = grind (arith, nat_tests)

no_space : (b : ℕ) → is_range_byte (hyphened_byte b) ≡ true → is_space b ≡ false
unfolding is_letter is_digit
no_space b is = grind (arith, nat_tests)

-- ---- a text without white space

from_first-plain : (text : List ℕ) → list_any is_space text ≡ false → from_first text ≡ text
from_first-plain [] free = refl
from_first-plain (b ∷ text) free = grind (arith, nat_tests)

list_any-reverse : (text : List ℕ) → list_any is_space text ≡ false → list_any is_space (reverse text) ≡ false
list_any-reverse [] free = refl
list_any-reverse (b ∷ text) free = grind (arith, common_steps, or_cases, reverse-append, list_any-append, list_any-reverse text)

trimmed-plain : (text : List ℕ) → list_any is_space text ≡ false → trimmed text ≡ text
trimmed-plain text free = rw (from_first-plain text free, from_first-plain (reverse text) (list_any-reverse text free)) (reverse-reverse text)

-- ---- a space before an element

written-space : (item behind : List ℕ) → written (32 ∷ item) behind ≡ written item behind
unfolding written
written-space item behind = rw (before_rest is_semicolon (32 ∷ []) item refl, after_rest is_semicolon (32 ∷ []) item refl) refl

pub space_before : (text : List ℕ) → written_elements (32 ∷ text) ≡ written_elements text
space_before text =
    elements_at (32 ∷ text)
    ∙ rw (before_rest is_comma (32 ∷ []) text refl, after_rest is_comma (32 ∷ []) text refl, written-space (before_first is_comma text) (digits_behind (items (after_first is_comma text)))) (sym (elements_at text))

-- ---- an element, by its range and the text after the range

module _ (range : List ℕ) (is : is_basic_range (hyphened range) ≡ true) where
  wanted_with : (tail behind : List ℕ) → before_first is_semicolon (range ++ tail) ≡ range → written (range ++ tail) behind ≡ Some (record { range = range; weight = wanted_weight (parameters (range ++ tail)) behind })
  unfolding written
  wanted_with tail behind before = rw (before, trimmed-plain range (unmarked is_space no_space range is), range_place range is, is) refl

  -- the text after the range, and the text of its parameters
  module _ (tail : List ℕ) (one : list_any is_comma tail ≡ false) (ends : before_first is_semicolon tail ≡ []) where
    free : list_any is_comma (range ++ tail) ≡ false
    free = grind (arith, common_steps, list_any-append, unmarked is_comma no_comma range is)

    element_with : (behind : List ℕ) → written (range ++ tail) behind ≡ Some (record { range = range; weight = wanted_weight (slice_split is_semicolon (after_first is_semicolon tail)) behind })
    element_with behind = grind (arith, common_steps, wanted_with tail behind, before_rest is_semicolon range tail, after_rest is_semicolon range tail, unmarked is_semicolon no_semicolon range is, append-nil)

    last_with : written_elements (range ++ tail) ≡ record { range = range; weight = wanted_weight (slice_split is_semicolon (after_first is_semicolon tail)) [] } ∷ written_elements []
    last_with = grind (arith, common_steps, elements_at (range ++ tail), whole_before is_comma, after_none, free, element_with [], nothing_written)

    next_with : (rest : List ℕ) → written_elements (range ++ tail ++ 44 ∷ rest) ≡ record { range = range; weight = wanted_weight (slice_split is_semicolon (after_first is_semicolon tail)) (digits_behind (items rest)) } ∷ written_elements rest
    next_with rest = grind (arith, common_steps, elements_at, before_rest, free, after_rest, append-nil, element_with)

  -- the text after the range has no weight
  pub read_unweighted :
      (text rest : List ℕ) → ((text ≡ []) × (rest ≡ [])) ⊎ (text ≡ 44 ∷ rest) → written_elements (range ++ text) ≡ record { range = range; weight = 1000 } ∷ written_elements rest
  read_unweighted text rest (inl last) = rw (last.0, last.1) (last_with [] refl refl)
  read_unweighted text rest (inr more) = rw more (ap (λ t. written_elements (t ++ 44 ∷ rest)) (sym (append-nil range)) ∙ next_with [] refl refl rest)

  -- the text begins with `;q=0.` and a digit
  module _ (digit : ℕ) (least : 48 ≤ digit) (most : digit ≤ 57) where
    no_comma_in : list_any is_comma (59 ∷ 113 ∷ 61 ∷ 48 ∷ 46 ∷ digit ∷ []) ≡ false
    no_comma_in = grind (arith, nat_tests)

    tenths : (behind : List ℕ) → wanted_weight (slice_split is_semicolon (113 ∷ 61 ∷ 48 ∷ 46 ∷ digit ∷ [])) behind ≡ 100 * (digit - 48)
    unfolding is_digit
    tenths behind = grind (arith, nat_tests)

    pub read_tenths :
        (left rest : List ℕ) → ((left ≡ []) × (rest ≡ [])) ⊎ (left ≡ 44 ∷ rest) →
        written_elements (range ++ 59 ∷ 113 ∷ 61 ∷ 48 ∷ 46 ∷ digit ∷ left) ≡ record { range = range; weight = 100 * (digit - 48) } ∷ written_elements rest
    read_tenths left rest (inl last) = rw (last.0, last.1) (last_with (59 ∷ 113 ∷ 61 ∷ 48 ∷ 46 ∷ digit ∷ []) no_comma_in refl ∙ rw (tenths []) refl)
    read_tenths left rest (inr more) =
        rw more
        (ap written_elements (sym (append_assoc range (59 ∷ 113 ∷ 61 ∷ 48 ∷ 46 ∷ digit ∷ []) (44 ∷ rest)))
        ∙ next_with (59 ∷ 113 ∷ 61 ∷ 48 ∷ 46 ∷ digit ∷ []) no_comma_in refl rest
        ∙ rw (tenths (digits_behind (items rest))) refl)

-- ---- a text whose first bytes are known

pub first_and_rest : (b : ℕ) (text : List ℕ) → 1 ≤ length text → get_or text 0 0 ≡ b → text ≡ b ∷ take (length text - 1) (drop 1 text)
first_and_rest b text some is = grind (arith, common_steps, take_all)

pub tenths_and_rest :
    (text : List ℕ) → 6 ≤ length text → get_or text 0 0 ≡ 59 → get_or text 1 0 ≡ 113 → get_or text 2 0 ≡ 61 → get_or text 3 0 ≡ 48 → get_or text 4 0 ≡ 46 →
    text ≡ 59 ∷ 113 ∷ 61 ∷ 48 ∷ 46 ∷ get_or text 5 0 ∷ take (length text - 6) (drop 6 text)
tenths_and_rest text some first second third fourth fifth = grind (arith, common_steps, take_all)
