-- The rule `privateuse` as a test of the subtags of a text. Only ghost fields and contracts of private functions cite
-- this page. Public contracts cite `IsPrivateUse` instead.
use Rattle.std.specs.Prelude.{ℕ, Bool, false, ◌&&◌, List, [], ◌∷◌}
use Rattle.langtag_scan.specs.Grammar.{list_all, is_mark, is_private_subtag, subtags}

abbrev pub are_private : List (List ℕ) → Bool
are_private subtags = list_all is_private_subtag subtags

abbrev pub is_mark_alone : List ℕ → Bool
is_mark_alone [] = false
is_mark_alone (mark ∷ []) = is_mark mark
is_mark_alone (mark ∷ more ∷ others) = false

abbrev pub are_private_use : List (List ℕ) → Bool
are_private_use [] = false
are_private_use (mark ∷ []) = false
are_private_use (mark ∷ first ∷ others) = is_mark_alone mark && are_private (first ∷ others)

abbrev pub is_private_use_text : List ℕ → Bool
is_private_use_text text = are_private_use (subtags text)
