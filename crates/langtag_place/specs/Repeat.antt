-- Elements that occur twice in a list. A tag with such variants or singletons is not valid, but it is well formed (RFC
-- 5646 section 2.2.9).
use Rattle.std.specs.Prelude.{◌≡◌, ℕ, Bool, true, false, ◌==◌, List, [], ◌∷◌, ◌++◌, length, slice_get, Option, None, Some, if◌then◌else◌, option_and_then, AllPairs, Any}
use Rattle.langtag_scan.specs.Grammar.{list_any, fold_byte}

module _ {A : Type 0} (alike : A → A → Bool) where
  -- the index of the first element that equals an earlier one by `alike`, or none; the elements in `seen` come before
  -- this list, and the index counts them, too
  abbrev pub repeat_index_after : List A → List A → Option ℕ
  repeat_index_after seen [] = None
  repeat_index_after seen (x ∷ xs) = if list_any (alike x) seen then Some (length seen) else repeat_index_after (seen ++ x ∷ []) xs

  -- the index of the first element that equals an earlier one by `alike`, or none
  abbrev pub repeat_index : List A → Option ℕ
  repeat_index xs = repeat_index_after [] xs

  -- the first element that equals an earlier one by `alike`, or none
  abbrev pub repeat : List A → Option A
  repeat xs = option_and_then (slice_get xs) (repeat_index xs)

  -- x is the first repeat: it equals an earlier element by `alike`, and no two elements before x are equal. If there is
  -- no x, no two elements of the list are equal
  abbrev pub IsFirstRepeat : List A → Option A → Type 0
  IsFirstRepeat xs None = AllPairs (λ y x. alike x y ≡ false) xs
  IsFirstRepeat xs (Some x) = (before : List A) × (after : List A) × (xs ≡ before ++ x ∷ after) × AllPairs (λ y z. alike z y ≡ false) before × Any (λ y. alike x y ≡ true) before

  -- k is the index of the first repeat, which is the number of elements before it. If there is no k, there is no repeat
  abbrev pub IsFirstRepeatAt : List A → Option ℕ → Type 0
  IsFirstRepeatAt xs None = IsFirstRepeat xs None
  IsFirstRepeatAt xs (Some k) = (x : A) × (is : IsFirstRepeat xs (Some x)) × (k ≡ length is.0)

-- whether two bytes are equal, ignoring case (section 2.1.1)
abbrev pub are_alike_bytes : ℕ → ℕ → Bool
are_alike_bytes a b = fold_byte a == fold_byte b
