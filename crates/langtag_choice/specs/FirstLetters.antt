-- What the first letters of a tag show.
use Rattle.std.specs.Prelude.{◌≡◌, ◌≤◌, ◌-◌, ◌/◌, ◌%◌, ◌^◌, ◌==◌, ℕ, Bool, true, List, [], ◌∷◌, length, slice_index_or, Option, Some, None}
use Rattle.langtag_scan.specs.Grammar.{after_first, are_letters, before_first, fold_byte}
use Rattle.langtag_choice.specs.declared.matching_tables.TheConstants.{CHANGED_BITS}
use Rattle.langtag_range.specs.Definitions.{is_separator}
use Rattle.langtag_text.specs.Numbers.{letter_number}

-- the first two bytes of a text in lowercase, or `None` if the text is shorter
abbrev pub first_two : List ℕ → Option (ℕ × ℕ)
first_two [] = None
first_two (a ∷ []) = None
first_two (a ∷ b ∷ text) = Some (fold_byte a, fold_byte b)

-- a text of letters, and its number
pub record IsNumberOf (text : List ℕ) (number : ℕ) : Type 0 where
  pub letters : are_letters text ≡ true
  pub value : number ≡ letter_number text

-- the first subtag of a text has two or three letters, and this number, and the rest follows it
pub record IsFirst (text : List ℕ) (number : ℕ) (rest : List ℕ) : Type 0 where
  pub some : 2 ≤ length (before_first is_separator text)
  pub few : length (before_first is_separator text) ≤ 3
  pub first : IsNumberOf (before_first is_separator text) number
  pub follows : rest ≡ after_first is_separator text

-- whether the bit of a language, given by its number, is set
unfoldable pub is_changed : ℕ → Bool
is_changed number = slice_index_or CHANGED_BITS ((number - 27) / 64) 0 / 2 ^ ((number - 27) % 64) % 2 == 1
