-- The numbers that stand for fields in the tables.
use Rattle.std.specs.Prelude.{ℕ, suc, ◌+◌, ◌*◌, ◌==◌, List, [], ◌∷◌, length, map, take, slice_index_or, Option, None, Some, if◌then◌else◌, option_map}
use Rattle.langtag_scan.specs.Grammar.{option_map_or, folded_number}
use Rattle.langtag_text.specs.Numbers.{letter_number}
use Rattle.langtag_cldr.specs.declared.tables.TheConstants.{SCRIPT_KEYS, REGION_KEYS}
use Rattle.langtag_text.specs.Fields.{Fields}

-- the first index of a number in a list
abbrev pub first_index : List ℕ → ℕ → Option ℕ
first_index [] number = None
first_index (key ∷ keys) number = if number == key then Some 0 else option_map suc (first_index keys number)

-- the position of a text among the texts with these numbers, counted from 1. The empty text has position 0, and a text
-- that is not among them has the position after the last
abbrev pub place : List ℕ → List ℕ → ℕ
place keys [] = 0
place keys (b ∷ text) = option_map_or suc (first_index keys (folded_number (b ∷ text))) (suc (length keys))

-- the number that stands for three fields, which is never 0
unfoldable pub key_number : Fields → ℕ
key_number f = letter_number f.language * 131072 + (place SCRIPT_KEYS f.script * 512 + (place REGION_KEYS f.region + 1))

-- the number of letters in a name, without the zeros that fill it up to four bytes
abbrev pub name_length : List ℕ → ℕ
name_length name =
    if slice_index_or name 1 0 == 0 then 0 else if slice_index_or name 2 0 == 0 then 2 else if slice_index_or name 3 0 == 0 then 3 else 4

abbrev pub name_text : List ℕ → List ℕ
name_text name = take (name_length name) name

-- the text of the name at an index
abbrev pub name_at : List (List ℕ) → ℕ → List ℕ
name_at names index = slice_index_or (map name_text names) index []
