-- The subtags of a text in which "_" is read as "-", and a range and a text without what both begin with.
use Rattle.langtag_scan.proofs.Prelude.{◌≡◌, ℕ, true, false, cond, codes, Some, None, List, [], ◌∷◌, refl, sym, ap, ◌∙◌, arith, ◌+◌, ◌-◌, ◌<◌, ◌≤◌, ◌==◌, length, length-drop, get_or, take, drop, ◌&&◌, before_first, after_first, slice_split, nat_tests, length-map, not, take_all, take_while-cons, common_steps}
use Rattle.langtag_scan.specs.Grammar.{is_primary, is_region, subtags, are_alike, fold_byte}
use Rattle.langtag_fields.specs.Fields.{extlang_prefix, is_prefix_of}
use Rattle.langtag_fields.specs.Subtags as list
use Rattle.langtag_range.specs.Definitions.{hyphened, is_separator, hyphened_byte, basic_text, begins_with_wildcard}
use Rattle.langtag_range.proofs.WantedTexts.{cut_or_whole, segments-read}
use Rattle.langtag_cldr.specs.Definitions.{known, counts, fields_of_subtags, text_fields, after_language, after_mark, first_marked, language_of, region_after, counted_parts, script_of, after_common, BeginsPlain}
use Rattle.langtag_range.proofs.BasicForms.{length-basic}
use Rattle.langtag_range.proofs.Among.{basic_form-byte}

-- the first subtag, if it counts, and those of the rest
pub next_part :
    (text : List ℕ) → counted_parts text ≡ cond (counts (before_first is_separator text)) (before_first is_separator text ∷ counted_parts (after_first is_separator text)) (counted_parts (after_first is_separator text))
next_part text = grind (arith, cut_or_whole is_separator text)

-- the bytes from one on
pub rest_of : (n : ℕ) (text : List ℕ) → take (length text - n) (drop n text) ≡ drop n text
rest_of n text = take_all (length text - n) (drop n text) (omega (arith, length-drop n text))

-- no extended language is registered for no language
pub none_extends : (language extlang : List ℕ) → length extlang ≡ 0 → is_prefix_of language extlang ≡ false
unfolding extlang_prefix list.extlang_prefixes
none_extends language extlang none = grind (arith, common_steps)

pub mark_off :
    (subtag : List ℕ) → 1 ≤ length subtag →
    after_mark subtag ≡ cond ((fold_byte (get_or subtag 0 0) == 114) && is_region (take (length subtag - 1) (drop 1 subtag))) (take (length subtag - 1) (drop 1 subtag)) []
mark_off subtag some = grind (arith, common_steps, rest_of)

pub none_marked : (text : List ℕ) → length text < 1 → first_marked (counted_parts text) ≡ []
none_marked text none = grind (arith, common_steps)

pub unmarked : (b : ℕ) (text : List ℕ) → is_separator b ≡ false → before_first is_separator (b ∷ text) ≡ b ∷ before_first is_separator text
unmarked b text is = take_while-cons (λ b. not (is_separator b)) b text ∙ ap (λ s. cond (not s) (b ∷ before_first is_separator text) []) is

pub not_marked :
    (text : List ℕ) → 1 ≤ length text → (fold_byte (get_or text 0 0) ≡ 114 → ⊥) → (get_or text 0 0 ≡ 42 → ⊥) → is_separator (get_or text 0 0) ≡ false → first_marked (counted_parts text) ≡ []
not_marked [] some other plain mark = absurd (omega (arith, some))
not_marked (b ∷ text) some other plain mark = grind (arith, nat_tests, next_part (b ∷ text), unmarked b text mark, other, plain)

-- those after the first
others_part : (text : List ℕ) → fields_of_subtags (subtags (hyphened text)) ≡ cond (is_primary (before_first is_separator text)) (Some (record {
  language = language_of (before_first is_separator text) (counted_parts (after_first is_separator text));
  script = known (codes "Zzzz") (script_of (after_language (counted_parts (after_first is_separator text))));
  region = known (codes "ZZ") (region_after (before_first is_separator text) (counted_parts (after_first is_separator text)));
})) None
unfolding is_primary
others_part text = grind (arith, nat_tests, cut_or_whole is_separator text, segments-read text)

-- the fields of the first subtag and of the parts after it
pub parts_read :
    (text first rest : List ℕ) → first ≡ before_first is_separator text → rest ≡ after_first is_separator text → fields_of_subtags (first ∷ slice_split is_separator rest) ≡ text_fields (hyphened text)
unfolding text_fields
parts_read text first rest f r = rw (f, r) (sym (others_part text))

module _ (text : List ℕ) where
  pub no_fields : is_primary (before_first is_separator text) ≡ false → None ≡ text_fields (hyphened text)
  unfolding text_fields
  no_fields not = sym (others_part text ∙ rw not refl)

  pub all_fields :
      (language script region : List ℕ) → is_primary (before_first is_separator text) ≡ true →
      language ≡ language_of (before_first is_separator text) (counted_parts (after_first is_separator text)) →
      script ≡ known (codes "Zzzz") (script_of (after_language (counted_parts (after_first is_separator text)))) →
      region ≡ known (codes "ZZ") (region_after (before_first is_separator text) (counted_parts (after_first is_separator text))) →
      Some (record { language = language; script = script; region = region }) ≡ text_fields (hyphened text)
  unfolding text_fields
  all_fields language script region is l s r = sym (others_part text ∙ rw (is, l, s, r) refl)

-- ---- a range is read from its start

pub read_byte : (a : ℕ) (range : List ℕ) → BeginsPlain (a ∷ range) → basic_text (a ∷ range) ≡ hyphened_byte a ∷ basic_text range
unfolding basic_text
read_byte a range plain = basic_form-byte (hyphened_byte a) (hyphened range) plain

pub read_nothing : basic_text [] ≡ []
unfolding basic_text
read_nothing = refl

pub some_length : (b : ℕ) (text : List ℕ) → (length (b ∷ text) == 0) ≡ false
some_length b text = grind (arith, nat_tests)

pub nothing_read : (range : List ℕ) → BeginsPlain range → (length (basic_text range) == 0) ≡ (length range == 0)
nothing_read [] plain = ap (λ t. length t == 0) read_nothing
nothing_read (a ∷ range) plain = grind (arith, nat_tests, read_byte a range plain)

pub star_off : (range : List ℕ) → begins_with_wildcard (hyphened range) ≡ true → basic_text (take (length range - 2) (drop 2 range)) ≡ basic_text range
unfolding basic_text
star_off range star = grind (arith, rest_of 2 range)

pub byte_off : (range : List ℕ) → 1 ≤ length range → BeginsPlain range → length (basic_text range) ≡ 1 + length (basic_text (take (length range - 1) (drop 1 range)))
byte_off range some plain = grind (arith, read_byte, rest_of 1)

pub length_read : (range : List ℕ) → length (basic_text range) ≤ length range
unfolding basic_text
length_read range = omega (arith, length-basic (hyphened range), length-map range hyphened_byte)

-- ---- what both begin with

pub common_next :
    (range text : List ℕ) → 1 ≤ length range → 1 ≤ length text → BeginsPlain range → fold_byte (hyphened_byte (get_or range 0 0)) ≡ fold_byte (get_or text 0 0) →
    after_common (basic_text (take (length range - 1) (drop 1 range))) (take (length text - 1) (drop 1 text)) ≡ after_common (basic_text range) text
common_next range text some any plain same = grind (arith, rest_of 1, read_byte)

pub common_apart :
    (range text : List ℕ) → 1 ≤ length range → 1 ≤ length text → BeginsPlain range → (fold_byte (hyphened_byte (get_or range 0 0)) ≡ fold_byte (get_or text 0 0) → ⊥) →
    after_common (basic_text range) text ≡ (basic_text range, text)
common_apart range text some any plain other = grind (arith, common_steps, read_byte)

common_none : (range : List ℕ) → after_common range [] ≡ (range, [])
common_none [] = refl
common_none (a ∷ range) = refl

-- nothing is left of the one or the other
pub common_end : (range text : List ℕ) → (1 ≤ length range → length text < 1) → after_common (basic_text range) text ≡ (basic_text range, text)
common_end range text none = grind (arith, common_steps, read_nothing, common_none)

-- ---- what is left of two texts

-- nothing of either if they are equal
alike_left : (range text : List ℕ) → are_alike range text ≡ ((length (after_common range text).0 == 0) && (length (after_common range text).1 == 0))
alike_left [] [] = refl
alike_left [] (b ∷ text) = rw (some_length b text) refl
alike_left (a ∷ range) [] = rw (some_length a range) refl
alike_left (a ∷ range) (b ∷ text) = grind (arith, nat_tests, some_length a range, alike_left range text)

pub nothing_left :
    (range text left rest : List ℕ) → BeginsPlain left → (basic_text left, rest) ≡ after_common (basic_text range) text →
    are_alike (basic_text range) text ≡ ((length left == 0) && (length rest == 0))
nothing_left range text left rest plain is = grind (arith, alike_left (basic_text range) text, nothing_read left plain)
