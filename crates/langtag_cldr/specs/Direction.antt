-- Which tags are written from right to left. The script of a tag's matching form decides.
use Rattle.std.specs.Prelude.{ℕ, Bool, false, List}
use Rattle.langtag_scan.specs.Grammar.{list_any, option_map_or, are_alike}
use Rattle.langtag_cldr.specs.Matching.{matching_form}
use Rattle.langtag_cldr.specs.RightToLeft.{right_to_left_scripts}

-- whether a text is one of the scripts that are written from right to left
abbrev pub is_right_to_left_script : List ℕ → Bool
is_right_to_left_script script = list_any (λ it. are_alike it script) right_to_left_scripts

-- whether a text is written from right to left; a text without a matching form is not
abbrev pub is_right_to_left : List ℕ → Bool
is_right_to_left text = option_map_or (λ form. is_right_to_left_script form.script) (matching_form text) false
