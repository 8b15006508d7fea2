-- The rows of the tables are those of the lists, and what is deprecated is found by its number: by computation.
use Rattle.langtag_scan.proofs.Prelude.{◌≡◌, ℕ, ◌+◌, ◌<◌, true, ◌==◌, Bool, List, [], length, get_or, map, Option, None, option_map, sym, ap, ◌∙◌, arith, ◌&&◌, ltb, not, refl, IsUtf8, codes, get_or-map, nil_from_length, IsUtf8-from_ascii, list_all, nat_tests}
use Rattle.langtag_scan.specs.Grammar.{are_letters, are_alphanumeric, is_letter, is_digit, is_primary, is_script, is_region, is_alphanumeric, are_alike, folded_number, fold_byte}
use Rattle.langtag_text.specs.Numbers.{letter_number}
use Rattle.langtag_text.proofs.Letters.{letter_number-tells}
use Rattle.langtag_cldr.specs.Definitions.{Likely, are_alike_fields, likely_for, or_else, filled, language_alone, language_rows, other_rows, likely_subtags, first_index, key_number, name_at, language_aliases, region_aliases, region_replacements, region_alone}
use Rattle.langtag_text.specs.FieldClasses.{is_language_field, is_script_field, is_region_field}
use Rattle.langtag_text.specs.Fields.{Fields}
use Rattle.langtag_cldr.specs.Numbers.{name_text}
use Rattle.langtag_cldr.specs.Rows.{of_language, places_of, places_for, no_row}
use Rattle.langtag_cldr.proofs.TableRows.{are_plain, is_numbered, key_number-tells, found_by_number, likely_for-append, is_alone, long_nowhere, alone_nowhere, other_nowhere, rows_listed, is_short as is_short_row, are_good, has_bit}
use Rattle.langtag_scan.proofs.Laws.{IsAscii-each, alphanumeric_below, folded_number-tells}
use Rattle.langtag_cldr.specs.declared.alias_tables.TheConstants as table
use Rattle.langtag_cldr.specs.declared.alias_tables.TheConstants.{ALIAS_LANGUAGES, ALIAS_SCRIPT_NAMES, ALIAS_SCRIPTS, ALIAS_REGION_NAMES, ALIAS_REGIONS, REGION_ALIAS_NAMES}

abbrev pub is_language : Likely → Bool
is_language row = are_letters row.from.language && is_alone row

pub language-tells :
    (l : List ℕ) → are_letters l ≡ true → (row : Likely) → is_language row ≡ true →
    (letter_number l == letter_number row.from.language) ≡ are_alike_fields row.from (of_language l)
language-tells l letters row good = grind (arith, nil_from_length, letter_number-tells)

-- ---- what is found by a number

pub language_found :
    (l : List ℕ) (number : ℕ) (o : Option ℕ) → are_letters l ≡ true → number ≡ letter_number l → o ≡ first_index (map (λ row. letter_number row.from.language) language_rows) number →
    option_map (λ i. (get_or language_rows i no_row).to) o ≡ likely_for language_rows (of_language l)
language_found l number o letters number_is is =
    rw (is, number_is)
    (found_by_number (λ f. letter_number f.language) is_language _ (language-tells l letters) _ rows_listed.languages.alone)

pub other_found :
    (key : Fields) (keys : List ℕ) (number : ℕ) (o : Option ℕ) → are_plain key ≡ true → keys ≡ map (λ row. key_number row.from) other_rows → number ≡ key_number key → o ≡ first_index keys number →
    option_map (λ i. (get_or other_rows i no_row).to) o ≡ likely_for other_rows key
other_found key keys number o plain keys_are number_is is =
    rw (is, keys_are, number_is)
    (found_by_number key_number is_numbered key (λ row. key_number-tells key row plain) other_rows rows_listed.others.numbered)

-- a language at an index
pub language_at :
    (i : ℕ) (script region : List ℕ) → i < length language_rows →
    script ≡ get_or (map (λ row. row.to.script) language_rows) i [] → region ≡ get_or (map (λ row. row.to.region) language_rows) i [] →
    record { language = []; script = script; region = region } ≡ places_of (get_or language_rows i no_row).to
language_at i script region inside script_is region_is = grind (arith, get_or-map)

-- the right side of a row at an index
pub right_side_at :
    (rows : List Likely) (i : ℕ) (language script region : List ℕ) → i < length rows →
    language ≡ get_or (map (λ row. row.to.language) rows) i [] → script ≡ get_or (map (λ row. row.to.script) rows) i [] →
    region ≡ get_or (map (λ row. row.to.region) rows) i [] →
    record { language = language; script = script; region = region } ≡ (get_or rows i no_row).to
right_side_at rows i language script region inside language_is script_is region_is = grind (arith, get_or-map)

-- ---- all rows

pub either : (key : Fields) → likely_for likely_subtags key ≡ or_else (likely_for language_rows key) (likely_for other_rows key)
unfolding likely_subtags
either key = likely_for-append language_rows other_rows key

pub all_long : (key : Fields) → 3 < length key.language → likely_for likely_subtags key ≡ None
all_long key long = grind (arith, either, long_nowhere, rows_listed.languages.short, rows_listed.others.short)

-- a language and no more
pub all_alone :
    (key : Fields) → 0 < length key.language → length key.script ≡ 0 → length key.region ≡ 0 →
    option_map (filled key) (places_for key.language) ≡ option_map (filled key) (likely_for likely_subtags key)
all_alone key some no_script no_region = grind (arith, either, alone_nowhere, rows_listed.others.other)

-- any other left side
pub all_other : (key : Fields) → (0 < length key.language → length key.script + length key.region ≡ 0 → ⊥) → likely_for other_rows key ≡ likely_for likely_subtags key
all_other key other = sym (either key ∙ ap (λ o. or_else o (likely_for other_rows key)) (other_nowhere language_rows key other rows_listed.languages.alone))

-- ---- the number of a region tells it apart but for case

abbrev pub is_region_alone : Likely → Bool
is_region_alone row = are_alphanumeric row.from.region && ltb (length row.from.language + length row.from.script) 1

pub region-tells :
    (f : Fields) → are_alphanumeric f.region ≡ true → (row : Likely) → is_region_alone row ≡ true →
    (folded_number f.region == folded_number row.from.region) ≡ are_alike_fields row.from (region_alone f)
region-tells f plain row good = grind (arith, nil_from_length, folded_number-tells)

-- ---- the tables

-- the table of deprecated languages: its columns, and the classes of its names
pub record AreAliases : Type 0 where
  pub numbers : table.ALIAS_KEYS ≡ map (λ row. letter_number row.from.language) language_aliases
  pub count : length language_aliases ≡ length table.ALIAS_LANGUAGES
  pub languages : map name_text table.ALIAS_LANGUAGES ≡ map (λ row. row.to.language) language_aliases
  pub scripts : map (name_at table.ALIAS_SCRIPT_NAMES) table.ALIAS_SCRIPTS ≡ map (λ row. row.to.script) language_aliases
  pub regions : map (name_at table.ALIAS_REGION_NAMES) table.ALIAS_REGIONS ≡ map (λ row. row.to.region) language_aliases
  pub alone : list_all is_language language_aliases ≡ true
  pub short : list_all is_short_row language_aliases ≡ true
  -- none has likely subtags of its own
  pub unlisted : list_all (λ row. not (has_bit row.from.language)) language_aliases ≡ true
  -- each leads to a language
  pub lead : list_all (λ row. ltb 0 (length row.to.language)) language_aliases ≡ true
  pub good : list_all are_good language_aliases ≡ true
  pub known : list_all (λ row. not (are_alike (codes "Zzzz") row.to.script) && not (are_alike (codes "ZZ") row.to.region)) language_aliases ≡ true
  pub languages_good : list_all (λ name. is_language_field (name_text name)) table.ALIAS_LANGUAGES ≡ true
  pub scripts_good : list_all (λ name. is_script_field (name_text name)) table.ALIAS_SCRIPT_NAMES ≡ true
  pub regions_good : list_all (λ name. is_region_field (name_text name)) table.ALIAS_REGION_NAMES ≡ true

pub aliases_listed : AreAliases
unfolding language_aliases has_bit letter_number is_letter is_digit is_primary is_script is_region fold_byte
aliases_listed = record {
  numbers = refl;
  count = refl;
  languages = refl;
  scripts = refl;
  regions = refl;
  alone = refl;
  short = refl;
  unlisted = refl;
  lead = refl;
  good = refl;
  known = refl;
  languages_good = refl;
  scripts_good = refl;
  regions_good = refl;
}

-- a table of deprecated regions: each has one region instead of it
pub record AreRegions (rows : List Likely) (keys : List ℕ) (names : List (List ℕ)) : Type 0 where
  pub numbers : keys ≡ map (λ row. folded_number row.from.region) rows
  pub count : length rows ≡ length names
  pub regions : map name_text names ≡ map (λ row. row.to.region) rows
  pub languages : map (λ row. row.to.language) rows ≡ map (λ row. []) rows
  pub scripts : map (λ row. row.to.script) rows ≡ map (λ row. []) rows
  pub alone : list_all is_region_alone rows ≡ true
  pub rows_good : list_all are_good rows ≡ true
  pub good : list_all (λ name. is_region_field (name_text name)) names ≡ true

pub region_aliases_listed : AreRegions region_aliases table.REGION_ALIAS_KEYS table.REGION_ALIAS_NAMES
unfolding region_aliases folded_number is_region is_letter is_digit fold_byte
region_aliases_listed = record { numbers = refl; count = refl; regions = refl; languages = refl; scripts = refl; alone = refl; rows_good = refl; good = refl }

pub replacements_listed : AreRegions region_replacements table.REPLACEMENT_KEYS table.REPLACEMENT_NAMES
unfolding region_replacements folded_number is_region is_letter is_digit fold_byte
replacements_listed = record { numbers = refl; count = refl; regions = refl; languages = refl; scripts = refl; alone = refl; rows_good = refl; good = refl }

-- ---- what a list has at an index

-- what a list has at an index, where another list has the same
pub at_index :
    (rows : List Likely) (texts : List (List ℕ)) (column : Likely → List ℕ) (i : ℕ) → texts ≡ map column rows → i < length rows →
    get_or texts i [] ≡ column (get_or rows i no_row)
at_index rows texts column i same inside = ap (λ list. get_or list i []) same ∙ get_or-map column rows i no_row [] inside

pub none_at :
    (rows : List Likely) (column : Likely → List ℕ) (i : ℕ) → map column rows ≡ map (λ row. []) rows → i < length rows → [] ≡ get_or (map column rows) i []
none_at rows column i none inside = sym (ap (λ list. get_or list i []) none ∙ get_or-map (λ row. []) rows i no_row [] inside)

-- ---- languages

pub alias_found :
    (f : Fields) (keys : List ℕ) (number : ℕ) (o : Option ℕ) → are_letters f.language ≡ true → keys ≡ map (λ row. letter_number row.from.language) language_aliases → number ≡ letter_number f.language → o ≡ first_index keys number →
    option_map (λ i. (get_or language_aliases i no_row).to) o ≡ likely_for language_aliases (language_alone f)
alias_found f keys number o letters keys_are number_is is =
    rw (is, keys_are, number_is)
    (found_by_number (λ f. letter_number f.language) is_language _ (language-tells _ letters) _ aliases_listed.alone)

-- ---- regions

pub region_found :
    (rows : List Likely) → list_all is_region_alone rows ≡ true →
    (f : Fields) (keys : List ℕ) (number : ℕ) (o : Option ℕ) → are_alphanumeric f.region ≡ true → keys ≡ map (λ row. folded_number row.from.region) rows → number ≡ folded_number f.region → o ≡ first_index keys number →
    option_map (λ i. (get_or rows i no_row).to) o ≡ likely_for rows (region_alone f)
region_found rows alone f keys number o plain keys_are number_is is =
    rw (is, keys_are, number_is) (found_by_number (λ f. folded_number f.region) _ _ (region-tells f plain) rows alone)

pub utf8_name : (name : List ℕ) → are_alphanumeric name ≡ true → IsUtf8 name
utf8_name name plain = IsUtf8-from_ascii name (IsAscii-each is_alphanumeric alphanumeric_below name plain)

-- ---- regions

pub replaced_region :
    (f : Fields) (keys : List ℕ) (o : Option ℕ) → are_alphanumeric f.region ≡ true → keys ≡ map (λ row. folded_number row.from.region) region_replacements → o ≡ first_index keys (folded_number f.region) →
    option_map (λ i. (get_or region_replacements i no_row).to.region) o ≡ option_map (λ to. to.region) (likely_for region_replacements (region_alone f))
replaced_region f keys o plain keys_are found =
    grind (arith, nat_tests, region_found region_replacements replacements_listed.alone f keys _ o plain keys_are refl found)
