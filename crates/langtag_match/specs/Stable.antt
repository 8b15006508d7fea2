-- Lists that are sorted by a key, in which elements with equal keys keep their order: the result of a stable sort.
use Rattle.std.specs.Prelude.{◌≡◌, ℕ, ◌==◌, List, [], ◌∷◌, filter}
use Rattle.langtag_scan.specs.Prelude.{AllByRecursion}

-- the key of each element may come before the keys of all later elements
abbrev pub IsOrderedBy : {A : Type 0} → (A → ℕ) → (ℕ → ℕ → Type 0) → List A → Type 0
IsOrderedBy key MayPrecede [] = Unit {0}
IsOrderedBy key MayPrecede (first ∷ others) =
    AllByRecursion (λ other. MayPrecede (key first) (key other)) others × IsOrderedBy key MayPrecede others

-- the elements with this key
abbrev pub with_key : {A : Type 0} → (A → ℕ) → ℕ → List A → List A
with_key key k elements = filter (λ element. key element == k) elements

-- the list is sorted, and elements with equal keys keep their order. There is only one such list (`stable_once`)
pub record IsStableOrder {A : Type 0} (key : A → ℕ) (MayPrecede : ℕ → ℕ → Type 0) (elements ordered : List A) : Type 0 where
  pub in_order : IsOrderedBy key MayPrecede ordered
  pub stable : (k : ℕ) → with_key key k ordered ≡ with_key key k elements
