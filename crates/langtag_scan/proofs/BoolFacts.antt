-- What a test says that is true, which of two values a choice has, and what holds of all members of a list.
use Rattle.langtag_scan.proofs.Prelude.{◌≡◌, ℕ, ◌≤◌, Bool, true, false, cond, leb, ◌⊎◌, arith, is_in_range, and_parts, leb-true, common_steps, List, [], ◌∷◌, list_all, refl}

pub between_true : (low high n : ℕ) → is_in_range low high n ≡ true → (low ≤ n) × (n ≤ high)
between_true low high n within = let h = and_parts (leb low n) (leb n high) within in (leb-true low n h.0, leb-true n high h.1)

-- a choice is its first value where the test is true, and else its second
pub chosen : {A : Type 0} (test : Bool) (x y z : A) → cond test x y ≡ z → ((test ≡ true) × (x ≡ z)) ⊎ ((test ≡ false) × (y ≡ z))
chosen test x y z e = grind (arith, common_steps)

pub list_all-weaker : {X : Type 0} (p q : X → Bool) → ((x : X) → p x ≡ true → q x ≡ true) → (xs : List X) → list_all p xs ≡ true → list_all q xs ≡ true
list_all-weaker p q weaker [] each = refl
list_all-weaker p q weaker (x ∷ xs) each = grind (arith, common_steps, and_parts (p x) (list_all p xs) each, weaker x, list_all-weaker p q weaker xs)
