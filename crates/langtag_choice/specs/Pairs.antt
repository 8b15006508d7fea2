-- The numbers that stand for two languages in the tables. Only contracts of private functions cite this page.
use Rattle.std.specs.Prelude.{ℕ, ◌+◌, ◌*◌}
use Rattle.langtag_text.specs.Numbers.{letter_number}
use Rattle.langtag_text.specs.Fields.{Fields}
use Rattle.langtag_cldr.specs.Definitions.{key_number}

-- two languages as one number
abbrev pub language_pair : Fields → Fields → ℕ
language_pair desired supported = letter_number desired.language * 32768 + letter_number supported.language

-- two languages, each with its script, as one number
abbrev pub script_pair : Fields → Fields → ℕ
script_pair desired supported = key_number desired * 4294967296 + key_number supported
