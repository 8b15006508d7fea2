-- The text of a tag whose extensions `u` and `t` are in canonical form (UTS #35, part 1, Annex C).
use Rattle.std.specs.Prelude.{ℕ, List}
use Rattle.langtag.specs.Definitions.{IsForm}
use Rattle.langtag_keyword.specs.Form.{extensions_record}

-- a normal tag becomes the text of this record; any other tag stays unchanged
abbrev pub IsExtensionsForm : List ℕ → List ℕ → Type 0
IsExtensionsForm old new = IsForm extensions_record old new
