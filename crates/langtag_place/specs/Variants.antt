-- Lists of variants (RFC 5646 section 2.1, `*("-" variant)` without the first hyphen).
use Rattle.std.specs.Prelude.{◌≡◌, ℕ, IsTrue, List}
use Rattle.langtag_scan.specs.Grammar.{AllByRecursion, is_variant, join}

-- each subtag in the list is a variant, and the text consists of all these subtags, joined by hyphens
pub record SpellsVariants (variants : List (List ℕ)) (text : List ℕ) : Type 0 where
  pub members : AllByRecursion (λ s. IsTrue (is_variant s)) variants
  pub joined : join variants ≡ text

-- some list of variants spells the text; the empty list spells the empty text
abbrev pub IsVariants : List ℕ → Type 0
IsVariants text = (variants : List (List ℕ)) × SpellsVariants variants text
