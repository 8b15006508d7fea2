-- The rule for a list of variants as a test of the subtags of a text. Only ghost fields and contracts of private
-- functions cite this page.
use Rattle.std.specs.Prelude.{ℕ, Bool, List}
use Rattle.langtag_scan.specs.Grammar.{list_all, is_variant, subtags}

abbrev pub are_variants : List (List ℕ) → Bool
are_variants texts = list_all is_variant texts

-- whether all subtags of a text are variants
abbrev pub is_variants : List ℕ → Bool
is_variants text = are_variants (subtags text)
