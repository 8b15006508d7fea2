-- The first member that equals one before it, by a list of the members that were seen.
use Rattle.langtag_scan.proofs.Prelude.{◌≡◌, Bool, cond, List, [], ◌∷◌, ◌++◌, list_any, Option, None, Some, refl, arith, nat_tests, append_assoc, slice_get, option_and_then}
use Rattle.langtag_place.proofs.RepeatLaws.{slice_get-seam}
use Rattle.langtag_place.specs.Repeat.{repeat, repeat_index_after}

module _ {A : Type 0} (alike : A → A → Bool) where
  abbrev pub repeat_after : List A → List A → Option A
  repeat_after seen [] = None
  repeat_after seen (x ∷ xs) = cond (list_any (alike x) seen) (Some x) (repeat_after (seen ++ x ∷ []) xs)

  repeat_after-index : (seen xs : List A) → option_and_then (slice_get (seen ++ xs)) (repeat_index_after alike seen xs) ≡ repeat_after seen xs
  repeat_after-index seen [] = refl
  repeat_after-index seen (x ∷ xs) = grind (arith, nat_tests, append_assoc seen (x ∷ []) xs, slice_get-seam seen xs x, repeat_after-index (seen ++ x ∷ []) xs)

  pub repeat-after : (xs : List A) → repeat alike xs ≡ repeat_after [] xs
  repeat-after xs = repeat_after-index [] xs
