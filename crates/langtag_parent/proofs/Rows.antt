-- The table has CLDR's rows, by computation, and a row is found by the number of its left side.
use Rattle.langtag_scan.proofs.Prelude.{◌≡◌, ℕ, ◌+◌, ◌*◌, ◌<◌, ◌≤◌, ◌==◌, true, Bool, ltb, List, [], ◌∷◌, length, get_or, map, Option, None, refl, arith, ◌&&◌, option_map, list_all, and_parts, get_or-map, ltb-true, nat_tests}
use Rattle.langtag_scan.specs.Grammar.{are_alphanumeric, fold_byte, folded_number, is_digit, is_letter, is_primary, is_region, is_script}
use Rattle.langtag_scan.proofs.FoldedNumbers.{fold_digits, folded_number-tells}
use Rattle.langtag_text.proofs.Elements.{list_all_get}
use Rattle.langtag_text.proofs.Letters.{letter_number-tells}
use Rattle.langtag_text.specs.Fields.{Fields}
use Rattle.langtag_text.specs.FieldClasses.{is_language_field, is_script_field, is_region_field}
use Rattle.langtag_text.specs.Numbers.{climbs_from, letter_number}
use Rattle.langtag_cldr.specs.Definitions.{Likely, are_alike_fields, first_index, likely_for, no_row}
use Rattle.langtag_scan.proofs.Disjoint.{region_short}
use Rattle.langtag_cldr.proofs.FieldClasses.{fields_plain, script_length}
use Rattle.langtag_cldr.proofs.TableRows.{are_good, are_plain, found_by_number, index_inside, is_short, long_nowhere}
use Rattle.langtag_parent.specs.Decided.{key_number}
use Rattle.langtag_parent.specs.ParentLocales.{parent_locales}
use Rattle.langtag_parent.specs.declared.tables.TheConstants.{PARENT_INDICES, PARENT_KEYS, PARENT_LANGUAGES, PARENT_REGIONS, PARENT_SCRIPTS}

-- ---- the number of fields

-- the number of a text of at most four bytes, and of one of at most three
folded_fits :
    (text : List ℕ) → are_alphanumeric text ≡ true → length text ≤ 4 →
    (folded_number text < 4294967296) × (length text ≤ 3 → folded_number text < 16777216)
unfolding folded_number
folded_fits [] h short = grind arith
folded_fits (a ∷ []) h short = grind (arith, fold_digits (a ∷ []) h)
folded_fits (a ∷ b ∷ []) h short = grind (arith, fold_digits (a ∷ b ∷ []) h)
folded_fits (a ∷ b ∷ c ∷ []) h short = grind (arith, fold_digits (a ∷ b ∷ c ∷ []) h)
folded_fits (a ∷ b ∷ c ∷ d ∷ []) h short = grind (arith, fold_digits (a ∷ b ∷ c ∷ d ∷ []) h)
folded_fits (a ∷ b ∷ c ∷ d ∷ e ∷ text) h short = absurd (omega (arith, short))

-- fields of letters and digits, whose script and region are short
abbrev pub are_numbered : Fields → Bool
are_numbered f = are_plain f && (ltb (length f.script) 5 && ltb (length f.region) 4)

three-tell :
    (l s r l2 s2 r2 : ℕ) → s < 4294967296 → r < 16777216 → s2 < 4294967296 → r2 < 16777216 →
    (l * 72057594037927936 + (s * 16777216 + r) == l2 * 72057594037927936 + (s2 * 16777216 + r2)) ≡ ((l == l2) && ((s == s2) && (r == r2)))
three-tell l s r l2 s2 r2 a b c d = grind arith

key_number-tells :
    (key : Fields) (row : Likely) → are_numbered key ≡ true → are_numbered row.from ≡ true → (key_number key == key_number row.from) ≡ are_alike_fields row.from key
unfolding key_number
key_number-tells key row k n =
    grind (arith, nat_tests, and_parts, ltb-true, three-tell, folded_fits, letter_number-tells, folded_number-tells)

-- ---- the rows

pub record AreParents : Type 0 where
  pub numbers : PARENT_KEYS ≡ map (λ row. key_number row.from) parent_locales
  pub climbs : climbs_from 0 PARENT_KEYS ≡ true
  pub count : length parent_locales ≡ 199
  pub few : list_all (λ i. ltb i 9) PARENT_INDICES ≡ true
  pub numbered : list_all (λ row. are_numbered row.from) parent_locales ≡ true
  pub short : list_all is_short parent_locales ≡ true
  pub good : list_all are_good parent_locales ≡ true

pub parents_listed : AreParents
unfolding parent_locales key_number letter_number folded_number is_letter is_digit is_primary is_script is_region fold_byte
parents_listed = record { numbers = refl; climbs = refl; count = refl; few = refl; numbered = refl; short = refl; good = refl }

-- what is found by a number
pub parent_found :
    (key : Fields) (keys : List ℕ) (number : ℕ) (o : Option ℕ) → are_numbered key ≡ true → keys ≡ map (λ row. key_number row.from) parent_locales → number ≡ key_number key →
    o ≡ first_index keys number → option_map (λ i. (get_or parent_locales i no_row).to) o ≡ likely_for parent_locales key
parent_found key keys number o numbered keys_are number_is is =
    let tells = λ (row : Likely). key_number-tells key row numbered in
    let found = found_by_number key_number (λ row. are_numbered row.from) key tells parent_locales parents_listed.numbered in
    rw (is, keys_are, number_is) found

-- a language that is longer than those of CLDR
pub stated_none : (key : Fields) → 3 < length key.language → likely_for parent_locales key ≡ None
stated_none key long = long_nowhere parent_locales key long parents_listed.short

-- ---- the fields of the code

pub fields_numbered : (f : Fields) → is_language_field f.language ≡ true → is_script_field f.script ≡ true → is_region_field f.region ≡ true → are_numbered f ≡ true
fields_numbered f l s r = grind (arith, nat_tests, fields_plain f l s r, script_length f.script s, region_short f.region)

-- ---- the parent in a row

abbrev Text : Type 0
Text = record { now : List ℕ }

abbrev texts : List Text → List (List ℕ)
texts names = map (λ name. name.now) names

pub record AreColumns : Type 0 where
  pub languages : map (λ j. get_or (texts PARENT_LANGUAGES) j []) PARENT_INDICES ≡ map (λ row. row.to.language) parent_locales
  pub scripts : map (λ j. get_or (texts PARENT_SCRIPTS) j []) PARENT_INDICES ≡ map (λ row. row.to.script) parent_locales
  pub regions : map (λ j. get_or (texts PARENT_REGIONS) j []) PARENT_INDICES ≡ map (λ row. row.to.region) parent_locales

pub columns_listed : AreColumns
unfolding parent_locales fold_byte
columns_listed = record { languages = refl; scripts = refl; regions = refl }

pub index_good : (i : ℕ) → i < length parent_locales → get_or PARENT_INDICES i 0 < 9
index_good i inside = index_inside 9 PARENT_INDICES i parents_listed.few (omega (arith, inside, parents_listed.count))

pub column_at :
    (names : List Text) (column : Likely → List ℕ) → map (λ j. get_or (texts names) j []) PARENT_INDICES ≡ map column parent_locales →
    (i j : ℕ) (list : List (List ℕ)) (found : List ℕ) → i < length parent_locales → j ≡ get_or PARENT_INDICES i 0 → list ≡ texts names → found ≡ get_or list j [] →
    found ≡ column (get_or parent_locales i no_row)
column_at names column same i j list found inside is list_is found_is =
    let left = get_or-map (λ n. get_or (texts names) n []) PARENT_INDICES i 0 [] (omega (arith, inside, parents_listed.count)) in
    let row = get_or-map column parent_locales i no_row [] inside in
    cc (left, row)

-- a parent in a row is of the classes of its fields
pub row_good : (i : ℕ) → i < length parent_locales → are_good (get_or parent_locales i no_row) ≡ true
row_good i inside = list_all_get are_good parent_locales i no_row parents_listed.good inside
