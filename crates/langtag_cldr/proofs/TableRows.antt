-- The numbers of fields tell them apart but for case, so a row is found by the number of its left side. The tables have the rows
-- of the lists: by computation.
use Rattle.langtag_scan.proofs.Prelude.{◌≡◌, ◌≢◌, ℕ, zero, suc, ◌<◌, true, ltb, List, [], ◌∷◌, length, get_or, None, Some, refl, sym, ap, ◌∙◌, arith, Bool, rules, Result, nat_cmp, map, ◌+◌, ◌*◌, ◌≤◌, ◌==◌, leb, ◌&&◌, false, cond, ◌++◌, option_map, ◌-◌, ◌/◌, ◌%◌, ◌^◌, not, flat_map, ◌||◌, codes, nat_tests, ltb-true, eq-eqb, ne_eqb, and_parts, searched, get_or-map, length-map, list_all, option_map_or, is_none, result_ok}
use Rattle.langtag_scan.specs.Grammar.{are_alike, fold_byte, folded_number, are_letters, are_alphanumeric, is_letter, is_digit, is_primary, is_script, is_region}
use Rattle.langtag_text.proofs.Elements.{list_all_get}
use Rattle.std.specs.List.Sorted.{IsBinarySearchResult}
use Rattle.langtag_scan.proofs.FoldedNumbers.{folded_number-tells}
use Rattle.langtag_text.specs.Numbers.{climbs_from, letter_number, places}
use Rattle.langtag_text.proofs.Letters.{letter_number-tells}
use Rattle.langtag_text.proofs.Rising.{climb_searched, above_first}
use Rattle.langtag_cldr.specs.Definitions.{Likely, are_alike_fields, likely_for, or_else, looked_up, first_index, name_at, place, key_number, region_aliases, language_rows, other_rows, likely_subtags, region_alone}
use Rattle.langtag_text.specs.FieldClasses.{is_language_field, is_script_field, is_region_field}
use Rattle.langtag_text.specs.Fields.{Fields}
use Rattle.langtag_cldr.specs.Numbers.{name_text}
use Rattle.langtag_cldr.specs.declared.tables.TheConstants.{SCRIPT_KEYS, REGION_KEYS}
use Rattle.langtag_cldr.specs.Rows.{no_row}
use Rattle.langtag_cldr.specs.Scripts.{script_codes}
use Rattle.langtag_text.proofs.Alike.{alike_length}
use Rattle.langtag_cldr.specs.declared.tables.TheConstants as table

-- ---- where a number stands first, and what a binary search says of it

index_found :
    (low : ℕ) (keys : List ℕ) (key i : ℕ) → climbs_from low keys ≡ true → i < length keys → get_or keys i 0 ≡ key → first_index keys key ≡ Some i
index_found low [] key i climbs inside at = absurd (omega (arith, inside))
index_found low (k ∷ keys) key zero climbs inside at = rw (eq-eqb key k (sym at)) refl
index_found low (k ∷ keys) key (suc i) climbs inside at = grind (arith, above_first k keys i, index_found k keys key i)

index_absent : (keys : List ℕ) (key : ℕ) → ((k : ℕ) → k < length keys → get_or keys k 0 ≢ key) → first_index keys key ≡ None
index_absent [] key none = refl
index_absent (k ∷ keys) key none =
    rw (ne_eqb key k (λ same. none zero (omega arith) (sym same)), index_absent keys key (λ j inside. none (suc j) (omega (arith, inside)))) refl

-- what a binary search finds
pub index_searched :
    (keys : List ℕ) (key : ℕ) (found : Result ℕ ℕ) → climbs_from 0 keys ≡ true → IsBinarySearchResult (λ k. nat_cmp k key) keys found → result_ok found ≡ first_index keys key
index_searched keys key found climbs position = search (rules, searched, climb_searched, index_found, index_absent)

-- a first index is one of the list, and the number stands there
pub record IsIndex (keys : List ℕ) (key i : ℕ) : Type 0 where
  pub inside : i < length keys
  pub at : get_or keys i 0 ≡ key

pub first_index-is : (keys : List ℕ) (key i : ℕ) → first_index keys key ≡ Some i → IsIndex keys key i
first_index-is [] key i is = absurd cc
first_index-is (k ∷ keys) key zero is = grind (arith, nat_tests)
first_index-is (k ∷ keys) key (suc i) is = grind (arith, nat_tests, first_index-is keys key i)

-- ---- an index in a list of indices

pub index_inside : (count : ℕ) (list : List ℕ) (k : ℕ) → list_all (λ i. ltb i count) list ≡ true → k < length list → get_or list k 0 < count
index_inside count list k all inside = ltb-true (get_or list k 0) count (list_all_get (λ i. ltb i count) list k 0 all inside)

-- ---- the names in a column of a table

-- a name is of the class of all names
pub name_good :
    (is_good : List ℕ → Bool) (names : List (List ℕ)) (found : List ℕ) (index : ℕ) → list_all (λ name. is_good (name_text name)) names ≡ true →
    index < length names → found ≡ name_at names index → is_good found ≡ true
name_good is_good names found index all inside is = grind (arith, nat_tests, get_or-map name_text names index [] [] inside, list_all_get)

-- and so is one in a column
pub column_good :
    (is_good : List ℕ → Bool) (names : List (List ℕ)) (column : List ℕ) (found : List ℕ) (index : ℕ) → list_all (λ name. is_good (name_text name)) names ≡ true →
    list_all (λ i. ltb i (length names)) column ≡ true → index < length column → found ≡ get_or (map (name_at names) column) index [] → is_good found ≡ true
column_good is_good names column found index all named inside is =
    name_good is_good names found (get_or column index 0) all (index_inside (length names) column index named inside) (is ∙ get_or-map (name_at names) column index 0 [] inside)

-- ---- places

index-bound : (keys : List ℕ) (n : ℕ) → option_map_or suc (first_index keys n) (suc (length keys)) ≤ suc (length keys)
index-bound [] n = omega arith
index-bound (k ∷ keys) n = grind (arith, index-bound keys n)

place-bound : (keys text : List ℕ) → place keys text ≤ suc (length keys)
place-bound keys text = grind (arith, index-bound keys)

-- two numbers, of which the first is in the list, have the same place where they are equal
index-tells :
    (keys : List ℕ) (n m : ℕ) → option_map_or suc (first_index keys n) (suc (length keys)) ≤ length keys →
    (option_map_or suc (first_index keys m) (suc (length keys)) == option_map_or suc (first_index keys n) (suc (length keys))) ≡ (m == n)
index-tells [] n m inside = absurd (omega (arith, inside))
index-tells (k ∷ keys) n m inside = grind (arith, nat_tests, index-tells keys n m)

pub place-tells :
    (keys a b : List ℕ) → are_alphanumeric a ≡ true → are_alphanumeric b ≡ true → place keys a ≤ length keys → (place keys b == place keys a) ≡ are_alike a b
place-tells keys a b al bl known = grind (arith, index-tells keys, folded_number-tells)

-- ---- three numbers as one

three-tell :
    (l s r l2 s2 r2 : ℕ) → s ≤ 255 → r ≤ 511 → s2 ≤ 255 → r2 ≤ 511 →
    (l * 131072 + (s * 512 + r) == l2 * 131072 + (s2 * 512 + r2)) ≡ ((l == l2) && ((s == s2) && (r == r2)))
three-tell l s r l2 s2 r2 a b c d = grind arith

add_one-tells : (a b : ℕ) → (a + 1 == b + 1) ≡ (a == b)
add_one-tells a b = grind arith

-- ---- fields

-- fields of letters and digits
abbrev pub are_plain : Fields → Bool
are_plain f = are_letters f.language && (are_alphanumeric f.script && are_alphanumeric f.region)

-- a text is not there, or among the texts whose numbers are these
abbrev pub is_placed : List ℕ → List ℕ → Bool
is_placed keys text = leb (place keys text) (length keys)

-- a row whose left side has a script and a region of the tables
abbrev pub is_numbered : Likely → Bool
is_numbered row = are_plain row.from && (is_placed SCRIPT_KEYS row.from.script && is_placed REGION_KEYS row.from.region)

pub key_number-tells : (key : Fields) (row : Likely) → are_plain key ≡ true → is_numbered row ≡ true → (key_number key == key_number row.from) ≡ are_alike_fields row.from key
unfolding key_number
key_number-tells key row plain numbered = grind (arith, nat_tests, and_parts, place-bound, three-tell, add_one-tells, letter_number-tells, place-tells)

-- where a number tells left sides apart, the first row with a number is the row for the fields
module _ (number : Fields → ℕ) (is_good : Likely → Bool) (key : Fields)
    (tells : (row : Likely) → is_good row ≡ true → (number key == number row.from) ≡ are_alike_fields row.from key) where
  pub found_by_number :
      (rows : List Likely) → list_all is_good rows ≡ true →
      option_map (λ i. (get_or rows i no_row).to) (first_index (map (λ row. number row.from) rows) (number key)) ≡ likely_for rows key
  found_by_number [] all = refl
  found_by_number (row ∷ rows) all = grind (arith, found_by_number rows)

-- ---- no row

module _ (is_good : Likely → Bool) (key : Fields) (apart : (row : Likely) → is_good row ≡ true → are_alike_fields row.from key ≡ false) where
  pub found_nowhere : (rows : List Likely) → list_all is_good rows ≡ true → likely_for rows key ≡ None
  found_nowhere [] all = refl
  found_nowhere (row ∷ rows) all = grind (arith, found_nowhere rows)

pub likely_for-append : (xs ys : List Likely) (key : Fields) → likely_for (xs ++ ys) key ≡ or_else (likely_for xs key) (likely_for ys key)
likely_for-append [] ys key = refl
likely_for-append (row ∷ xs) ys key = grind (arith, nat_tests, likely_for-append xs ys key)

-- ---- by the lengths of fields

alike_lengths : (a b : Fields) → are_alike_fields a b ≡ true → (length a.language ≡ length b.language) × (length a.script ≡ length b.script) × (length a.region ≡ length b.region)
alike_lengths a b alike = grind (arith, alike_length)

-- a language of at most three letters
abbrev pub is_short : Likely → Bool
is_short row = ltb (length row.from.language) 4

-- a language and no more
abbrev pub is_alone : Likely → Bool
is_alone row = ltb 0 (length row.from.language) && ltb (length row.from.script + length row.from.region) 1

-- a script or a region, or no language: this is so, as a language has fewer than nine letters
abbrev pub is_other : Likely → Bool
is_other row = ltb (length row.from.language) (1 + 8 * (length row.from.script + length row.from.region))

pub long_nowhere : (rows : List Likely) (key : Fields) → 3 < length key.language → list_all is_short rows ≡ true → likely_for rows key ≡ None
long_nowhere rows key long = grind (arith, found_nowhere is_short key, alike_lengths)

pub alone_nowhere :
    (rows : List Likely) (key : Fields) → 0 < length key.language → length key.script ≡ 0 → length key.region ≡ 0 → list_all is_other rows ≡ true →
    likely_for rows key ≡ None
alone_nowhere rows key some no_script no_region = grind (arith, found_nowhere is_other key, alike_lengths)

pub other_nowhere :
    (rows : List Likely) (key : Fields) → (0 < length key.language → length key.script + length key.region ≡ 0 → ⊥) →
    list_all (λ row. are_letters row.from.language && is_alone row) rows ≡ true → likely_for rows key ≡ None
other_nowhere rows key other =
    grind (arith, nat_tests, found_nowhere (λ row. are_letters row.from.language && is_alone row) key, alike_lengths)

-- ---- the bits of the table of languages

-- the k lowest bits of a word, from the lowest on
unfoldable pub bits : ℕ → ℕ → List Bool
bits zero word = []
bits (suc k) word = (word % 2 == 1) ∷ bits k (word / 2)

abbrev pub words : List ℕ → List Bool
words list = flat_map (bits 64) list

-- the word of a language from its bit on
abbrev pub from_bit : ℕ → ℕ
from_bit number = get_or table.LANGUAGE_BITS ((number - 27) / 64) 0 / 2 ^ ((number - 27) % 64)

-- ---- what the rows have in common

-- a text that is there
abbrev pub is_there : List ℕ → Bool
is_there [] = false
is_there (b ∷ text) = true

-- the left side is a language and no more
abbrev pub is_language_row : Likely → Bool
is_language_row row = is_there row.from.language && (not (is_there row.from.script) && not (is_there row.from.region))

-- a text is empty, or alike the other
abbrev pub is_kept : List ℕ → List ℕ → Bool
is_kept from to = not (is_there from) || are_alike from to

-- a text is there, and does not say that it is unknown
abbrev pub is_known : List ℕ → List ℕ → Bool
is_known unknown text = is_there text && not (are_alike unknown text)

-- the right side has a script and a region, keeps the language, and its language is not `und`
abbrev pub is_whole : Likely → Bool
is_whole row =
    is_known (codes "Zzzz") row.to.script
    && (is_known (codes "ZZ") row.to.region && (not (are_alike (codes "und") row.to.language)
    && is_kept row.from.language row.to.language))

-- a right side without a language keeps the left side, which has a script, leads to no language, and its region is not
-- deprecated
abbrev pub stays_unknown : Likely → Bool
stays_unknown row =
    (not (is_there row.from.language) && is_there row.from.script)
    && ((is_kept row.from.script row.to.script && is_kept row.from.region row.to.region)
    && (option_map_or (λ v. not (is_there v.language)) (looked_up other_rows row.to) false && is_none (likely_for region_aliases (region_alone row.to))))

-- the bit of a language is set in the table of those that have a row
unfoldable pub has_bit : List ℕ → Bool
has_bit language =
    are_letters language
    && (leb 27 (letter_number language) && (leb (letter_number language) 18278 && (from_bit (letter_number language) % 2 == 1)))

-- of another row: its language has a row of its own
abbrev pub is_other_row : Likely → Bool
is_other_row row = cond (is_there row.to.language) (has_bit row.to.language) (stays_unknown row)

abbrev pub is_settled : Likely → Bool
is_settled row = is_whole row && (is_language_row row || is_other_row row)

-- the right side is of the classes of its fields
abbrev pub are_good : Likely → Bool
are_good row = is_language_field row.to.language && (is_script_field row.to.script && is_region_field row.to.region)

-- ---- the rows of a language alone

-- the table of languages that have rows
pub record AreLanguages : Type 0 where
  pub scripts : map (name_at table.SCRIPT_NAMES) table.LANGUAGE_SCRIPTS ≡ map (λ row. row.to.script) language_rows
  pub regions : map (name_at table.REGION_NAMES) table.LANGUAGE_REGIONS ≡ map (λ row. row.to.region) language_rows
  -- the table of bits has exactly the numbers of the languages
  pub bits : places 27 (words table.LANGUAGE_BITS) ≡ map (λ row. letter_number row.from.language) language_rows
  -- a language and no more, of two or three letters
  pub alone : list_all (λ row. are_letters row.from.language && is_alone row) language_rows ≡ true
  pub short : list_all is_short language_rows ≡ true

-- ---- the other rows

pub record AreOthers : Type 0 where
  pub numbers : table.OTHER_KEYS ≡ map (λ row. key_number row.from) other_rows
  pub languages : map (name_at table.LANGUAGE_NAMES) table.OTHER_LANGUAGES ≡ map (λ row. row.to.language) other_rows
  pub scripts : map (name_at table.SCRIPT_NAMES) table.OTHER_SCRIPTS ≡ map (λ row. row.to.script) other_rows
  pub regions : map (name_at table.REGION_NAMES) table.OTHER_REGIONS ≡ map (λ row. row.to.region) other_rows
  pub numbered : list_all is_numbered other_rows ≡ true
  pub other : list_all is_other other_rows ≡ true
  pub short : list_all is_short other_rows ≡ true

-- ---- all rows

pub record AreRows : Type 0 where
  pub languages : AreLanguages
  pub others : AreOthers
  pub settled : list_all is_settled likely_subtags ≡ true
  -- a language on the left has its bit
  pub listed : list_all (λ row. not (is_there row.from.language) || has_bit row.from.language) likely_subtags ≡ true
  pub good : list_all are_good likely_subtags ≡ true

-- one proof for all of it, so that the lists are read only once
pub rows_listed : AreRows
unfolding likely_subtags language_rows other_rows region_aliases has_bit bits places key_number letter_number folded_number fold_byte is_primary is_script is_region is_letter is_digit
rows_listed = record {
  languages = record { scripts = refl; regions = refl; bits = refl; alone = refl; short = refl };
  others = record { numbers = refl; languages = refl; scripts = refl; regions = refl; numbered = refl; other = refl; short = refl };
  settled = refl;
  listed = refl;
  good = refl;
}

pub language_count : length language_rows ≡ length table.LANGUAGE_SCRIPTS
language_count = simp length-map at (sym (ap length rows_listed.languages.scripts))

pub other_count : length other_rows ≡ length table.OTHER_SCRIPTS
other_count = simp length-map at (sym (ap length rows_listed.others.scripts))

-- ---- the classes of names

pub scripts_good : list_all (λ name. is_script_field (name_text name)) table.SCRIPT_NAMES ≡ true
unfolding is_script is_letter
scripts_good = refl

pub regions_good : list_all (λ name. is_region_field (name_text name)) table.REGION_NAMES ≡ true
unfolding is_region is_letter is_digit
regions_good = refl

pub languages_good : list_all (λ name. is_language_field (name_text name)) table.LANGUAGE_NAMES ≡ true
unfolding is_primary is_letter
languages_good = refl

-- ---- the table of scripts has the codes of the list: by computation

pub scripts_listed : table.SCRIPT_NAMES ≡ script_codes
unfolding script_codes fold_byte
scripts_listed = refl
