-- What the recogniser remembers about the bytes of a subtag: only what the class of the subtag depends on (RFC 5646
-- section 2.1). Only contracts of private functions cite this page.
use Rattle.std.specs.Prelude.{ℕ, ◌==◌, ◌&&◌, ◌||◌, not, nat_le, Bool, true, false, List, fold, if◌then◌else◌}
use Rattle.langtag_scan.specs.Class.{is_letter, is_mark}
use Rattle.langtag_scan.specs.Stage.{Classes}

pub data Kind : Type 0 where
  Empty : Kind
  Mark : Kind  -- `x` or `X` alone
  Letters : Kind
  Digits : Kind
  LetterFirst : Kind  -- letters and digits, a letter first
  DigitFirst : Kind

abbrev pub with_letter : Kind → ℕ → Kind
with_letter Empty b = if is_mark b then Mark else Letters
with_letter Mark b = Letters
with_letter Letters b = Letters
with_letter Digits b = DigitFirst
with_letter LetterFirst b = LetterFirst
with_letter DigitFirst b = DigitFirst

abbrev pub with_digit : Kind → Kind
with_digit Empty = Digits
with_digit Mark = LetterFirst
with_digit Letters = LetterFirst
with_digit Digits = Digits
with_digit LetterFirst = LetterFirst
with_digit DigitFirst = DigitFirst

-- the kind of a subtag after one more letter or digit
abbrev pub kind_after : Kind → ℕ → Kind
kind_after kind b = if is_letter b then with_letter kind b else with_digit kind

abbrev pub kind_of : List ℕ → Kind
kind_of s = fold kind_after Empty s

abbrev pub has_letters : Kind → Bool
has_letters Empty = true
has_letters Mark = true
has_letters Letters = true
has_letters Digits = false
has_letters LetterFirst = false
has_letters DigitFirst = false

abbrev pub has_digits : Kind → Bool
has_digits Empty = true
has_digits Mark = false
has_digits Letters = false
has_digits Digits = true
has_digits LetterFirst = false
has_digits DigitFirst = false

abbrev pub begins_with_digit : Kind → Bool
begins_with_digit Empty = false
begins_with_digit Mark = false
begins_with_digit Letters = false
begins_with_digit Digits = true
begins_with_digit LetterFirst = false
begins_with_digit DigitFirst = true

abbrev pub is_kind_of_mark : Kind → Bool
is_kind_of_mark Empty = false
is_kind_of_mark Mark = true
is_kind_of_mark Letters = false
is_kind_of_mark Digits = false
is_kind_of_mark LetterFirst = false
is_kind_of_mark DigitFirst = false

-- the classes of a subtag of this kind that has `size` letters and digits, where `size` is at most eight
abbrev pub classes_by : Kind → ℕ → Classes
classes_by kind size = record {
  primary = nat_le 2 size && has_letters kind;
  extended = (size == 3) && has_letters kind;
  script = (size == 4) && has_letters kind;
  region = ((size == 2) && has_letters kind) || ((size == 3) && has_digits kind);
  variant = nat_le 5 size || ((size == 4) && begins_with_digit kind);
  extension_subtag = nat_le 2 size;
  private_subtag = nat_le 1 size;
  mark = (size == 1) && is_kind_of_mark kind;
  singleton = (size == 1) && not (is_kind_of_mark kind);
  short = nat_le size 3;
}
