-- Whether a member is repeated ignores case.
use Rattle.langtag_scan.proofs.Prelude.{◌≡◌, ℕ, Bool, List, [], ◌∷◌, ◌++◌, map, list_any, None, is_none, refl, sym, ap, ◌∙◌, arith, common_steps, length-map, map-append, slice_get-map}
use Rattle.langtag_scan.specs.Grammar.{Extension, fold_byte, fold_extension}
use Rattle.langtag_scan.proofs.CaseLaw.{fold_byte-twice}
use Rattle.langtag.specs.Repeat.{are_alike_bytes, repeat, repeat_index_after}

-- a function that keeps which members are alike keeps whether one is repeated
module _ {A : Type 0} (alike : A → A → Bool) (f : A → A) (same : (x y : A) → alike (f x) (f y) ≡ alike x y) where
  any-map : (x : A) (xs : List A) → list_any (alike (f x)) (map f xs) ≡ list_any (alike x) xs
  any-map x [] = refl
  any-map x (y ∷ xs) = rw (same x y, any-map x xs) refl

  index-map : (seen xs : List A) → repeat_index_after alike (map f seen) (map f xs) ≡ repeat_index_after alike seen xs
  index-map seen [] = refl
  index-map seen (x ∷ xs) = rw (any-map x seen, length-map seen f, ← map-append f seen (x ∷ []), index-map (seen ++ x ∷ []) xs) refl

  pub repeat-map : (xs : List A) → is_none (repeat alike (map f xs)) ≡ is_none (repeat alike xs)
  repeat-map xs = grind (arith, common_steps, index-map, slice_get-map)

  pub none_alike : (xs ys : List A) → map f xs ≡ map f ys → repeat alike xs ≡ None → repeat alike ys ≡ None
  none_alike xs ys like none = grind (arith, common_steps, sym (repeat-map xs) ∙ ap (λ z. is_none (repeat alike z)) like ∙ repeat-map ys)

pub bytes-fold : (a b : ℕ) → are_alike_bytes (fold_byte a) (fold_byte b) ≡ are_alike_bytes a b
bytes-fold a b = rw (fold_byte-twice a, fold_byte-twice b) refl

pub singletons-fold : (es : List Extension) → map (λ e. e.singleton) (map fold_extension es) ≡ map fold_byte (map (λ e. e.singleton) es)
singletons-fold [] = refl
singletons-fold (e ∷ es) = ap (λ t. fold_byte e.singleton ∷ t) (singletons-fold es)
