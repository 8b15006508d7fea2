-- What the code of this crate reads. Only contracts of private functions cite this page.
use Rattle.std.specs.Prelude.{ℕ, ◌+◌, ◌*◌}
use Rattle.langtag_scan.specs.Grammar.{folded_number}
use Rattle.langtag_text.specs.Fields.{Fields}
use Rattle.langtag_text.specs.Numbers.{letter_number}

-- the number that stands for fields in the table
unfoldable pub key_number : Fields → ℕ
key_number f = letter_number f.language * 72057594037927936 + (folded_number f.script * 16777216 + folded_number f.region)
