-- A law of the canonical forms of `u` and `t` (UTS #35, part 1, Annex C): the order of keywords changes nothing.
use Rattle.std.specs.Prelude.{◌≡◌, ℕ, Bool, true, false, List, [], ◌∷◌, ◌++◌}
use Rattle.langtag_scan.specs.Grammar.{AllByRecursion, are_alike}
use Rattle.langtag_keyword.specs.Keywords.{before_key}

-- `opens` says which subtags are keys
module _ (opens : List ℕ → Bool) where
  -- a keyword: a key, and the subtags of its value, which are no keys
  abbrev pub IsKeyword : List ℕ → List (List ℕ) → Type 0
  IsKeyword key value = (opens key ≡ true) × AllByRecursion (λ s. opens s ≡ false) value

  -- the form stays the same if two keywords that follow each other change places; their keys are different, and the
  -- subtags after them begin with a key, or there are none
  abbrev pub OrderChangesNothing : (List (List ℕ) → List (List ℕ)) → Type 0
  OrderChangesNothing form_of =
      (before after : List (List ℕ)) (key other : List ℕ) (value other_value : List (List ℕ)) →
      IsKeyword key value → IsKeyword other other_value → are_alike key other ≡ false → before_key opens after ≡ [] →
      form_of (before ++ key ∷ (value ++ other ∷ (other_value ++ after))) ≡ form_of (before ++ other ∷ (other_value ++ key ∷ (value ++ after)))
