-- What the class of a field says of its letters and its length, and which scripts are written from right to left.
use Rattle.langtag_scan.proofs.Prelude.{◌≡◌, ℕ, ◌<◌, ◌≤◌, true, Bool, List, [], ◌∷◌, length, refl, arith, map, is_some, list_all, list_any, common_steps}
use Rattle.langtag_scan.specs.Grammar.{are_letters, are_alphanumeric, is_primary, is_extended, is_digit, is_letter, are_alike, fold_byte, folded_number}
use Rattle.langtag_text.specs.Numbers.{letter_number}
use Rattle.langtag_text.proofs.Letters.{primary_letters, extended_primary}
use Rattle.langtag_text.specs.FieldClasses.{is_language_field, is_script_field, is_region_field}
use Rattle.langtag_text.specs.Fields.{Fields}
use Rattle.langtag_cldr.specs.Definitions.{known, or_other, first_index}
use Rattle.langtag_cldr.proofs.TableRows.{are_plain}
use Rattle.langtag_scan.proofs.Laws.{script_four, region_two_three, of_primary, of_script, of_region, folded_number-tells}
use Rattle.langtag_text.proofs.FieldClasses.{from_primary}
use Rattle.langtag_cldr.specs.RightToLeft.{right_to_left_scripts}
use Rattle.langtag_cldr.specs.declared.tables.TheConstants.{RIGHT_TO_LEFT_KEYS}

-- a language that is there is a primary subtag
pub language_primary : (text : List ℕ) → is_language_field text ≡ true → 0 < length text → is_primary text ≡ true
language_primary text good some = grind arith

pub language_letters : (text : List ℕ) → is_language_field text ≡ true → are_letters text ≡ true
language_letters text good = grind (arith, primary_letters)

pub language_alphanumeric : (text : List ℕ) → is_language_field text ≡ true → are_alphanumeric text ≡ true
language_alphanumeric text good = grind (arith, common_steps, of_primary text)

pub from_extended : (text : List ℕ) → is_extended text ≡ true → is_language_field text ≡ true
from_extended text is = from_primary text (extended_primary text is)

pub none_or_extended : (text : List ℕ) → (0 < length text → is_extended text ≡ true) → is_language_field text ≡ true
none_or_extended text is = grind (arith, from_extended)

pub script_alphanumeric : (text : List ℕ) → is_script_field text ≡ true → are_alphanumeric text ≡ true
script_alphanumeric text good = grind (arith, common_steps, of_script text)

pub script_length : (text : List ℕ) → is_script_field text ≡ true → length text ≤ 4
script_length text good = grind (arith, script_four)

pub region_alphanumeric : (text : List ℕ) → is_region_field text ≡ true → are_alphanumeric text ≡ true
region_alphanumeric text good = grind (arith, common_steps, of_region text)

pub region_length : (text : List ℕ) → is_region_field text ≡ true → length text ≤ 4
region_length text good = grind (arith, region_two_three)

pub fields_plain :
    (f : Fields) → is_language_field f.language ≡ true → is_script_field f.script ≡ true → is_region_field f.region ≡ true → are_plain f ≡ true
fields_plain f l s r = rw (language_letters f.language l, script_alphanumeric f.script s, region_alphanumeric f.region r) refl

pub language_length : (text : List ℕ) → is_language_field text ≡ true → length text ≤ 8
language_length text good = grind (arith, of_primary)

pub number_of_none : (text : List ℕ) → length text ≡ 0 → letter_number text ≡ 0
unfolding letter_number
number_of_none text none = grind (arith, common_steps)

-- ---- what is known is of the class

pub known_good : (is_good : List ℕ → Bool) (unknown text : List ℕ) → is_good [] ≡ true → is_good text ≡ true → is_good (known unknown text) ≡ true
known_good is_good unknown text none good = grind arith

pub known_language : (unknown text : List ℕ) → is_language_field text ≡ true → is_language_field (known unknown text) ≡ true
known_language unknown text good = known_good is_language_field unknown text refl good

pub known_script : (unknown text : List ℕ) → is_script_field text ≡ true → is_script_field (known unknown text) ≡ true
known_script unknown text good = known_good is_script_field unknown text refl good

pub known_region : (unknown text : List ℕ) → is_region_field text ≡ true → is_region_field (known unknown text) ≡ true
known_region unknown text good = known_good is_region_field unknown text refl good

pub known_other : (unknown text other : List ℕ) → is_region_field text ≡ true → is_region_field other ≡ true → is_region_field (known unknown (or_other text other)) ≡ true
known_other unknown text other good also = grind (arith, known_region)

-- ---- the table has the keys of the list: by computation

pub keys_listed : RIGHT_TO_LEFT_KEYS ≡ map folded_number right_to_left_scripts
unfolding right_to_left_scripts folded_number fold_byte
keys_listed = refl

plain : list_all are_alphanumeric right_to_left_scripts ≡ true
unfolding right_to_left_scripts is_letter is_digit
plain = refl

-- ---- a text is in a list if its key is among the keys

found_in : (texts : List (List ℕ)) (text : List ℕ) → list_all are_alphanumeric texts ≡ true → are_alphanumeric text ≡ true → is_some (first_index (map folded_number texts) (folded_number text)) ≡ list_any (λ it. are_alike it text) texts
found_in [] text all is = refl
found_in (it ∷ texts) text all is = grind (arith, found_in texts text, folded_number-tells it text)

pub found_by_key : (script : List ℕ) → is_script_field script ≡ true → is_some (first_index (map folded_number right_to_left_scripts) (folded_number script)) ≡ list_any (λ it. are_alike it script) right_to_left_scripts
found_by_key script good = found_in right_to_left_scripts script plain (script_alphanumeric script good)
