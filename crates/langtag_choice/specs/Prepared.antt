-- What is kept of a tag that is prepared.
use Rattle.std.specs.Prelude.{◌≡◌, ℕ, ◌≤◌, ◌==◌, ◌&&◌, ◌||◌, nat_le, Bool, true, List, length, Option, Some, None, slice_index_or, bytes_eq}
use Rattle.langtag_scan.specs.Grammar.{are_letters}
use Rattle.langtag_text.specs.Fields.{Fields}
use Rattle.langtag_choice.specs.FirstLetters.{first_two}
use Rattle.langtag_choice.specs.Nearness.{unlikely_form}
use Rattle.langtag_choice.specs.declared.prepared_form.PreparedForm.{PreparedForm}
use Rattle.langtag_cldr.specs.Definitions.{matching_form, name_text}
use Rattle.langtag_text.specs.Numbers.{letter_number}

-- whether the number of the language, and the first two letters of the tag, are these
abbrev pub has_head : Fields → ℕ × ℕ → PreparedForm → Bool
has_head f letters p =
    ((nat_le (length f.language) 3 && are_letters f.language) && (letter_number f.language == p.number)) &&
    ((letters.0 == slice_index_or p.letters 0 0) && (letters.1 == slice_index_or p.letters 1 0))

-- whether the fields are these, and the form is as unlikely as this
abbrev pub has_fields : Fields → PreparedForm → Bool
has_fields f p =
    (bytes_eq (name_text p.language) f.language && (bytes_eq (name_text p.script) f.script && bytes_eq (name_text p.region) f.region)) &&
    (unlikely_form f == p.unlikely)

-- whether nothing is kept, or a matching form and the first two letters of its tag
abbrev pub keeps : Option Fields → Option (ℕ × ℕ) → PreparedForm → Bool
keeps None letters p = p.number == 0
keeps (Some f) None p = p.number == 0
keeps (Some f) (Some letters) p = (p.number == 0) || (has_head f letters p && has_fields f p)

-- whether what is kept is true of a tag
unfoldable pub is_prepared_for : List ℕ → PreparedForm → Bool
is_prepared_for tag p = keeps (matching_form tag) (first_two tag) p

-- if the tag has a matching form whose language has at most three letters, this form is kept, with the tag's first letters
abbrev pub KeepsForm : List ℕ → PreparedForm → Type 0
KeepsForm tag p = (f : Fields) (letters : ℕ × ℕ) → matching_form tag ≡ Some f → first_two tag ≡ Some letters → length f.language ≤ 3 →
    (has_head f letters p && has_fields f p) ≡ true
