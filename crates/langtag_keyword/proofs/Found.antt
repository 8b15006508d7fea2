-- What is found in a list has what all of the list have, and what follows from that.
use Rattle.std.specs.Option.{is_some}
use Rattle.langtag_scan.proofs.Prelude.{common_steps, arith, ◌≡◌, Bool, true, List, [], ◌∷◌, ◌&&◌, Some, false≢true, find, AllByRecursion, list_all, map, Option, None, refl}

pub both : (x y : Bool) → (x && y) ≡ true → (x ≡ true) × (y ≡ true)
both x y is = grind (arith, common_steps, false≢true)

-- what is found has what all have
pub found_has : {X : Type 0} (good test : X → Bool) (xs : List X) (x : X) → list_all good xs ≡ true → find test xs ≡ Some x → good x ≡ true
found_has good test [] x all is = absurd cc
found_has good test (y ∷ xs) x all is = grind (arith, common_steps, both (good y) (list_all good xs) all, found_has good test xs x)

-- what is found passes the test
pub found_is : {X : Type 0} (test : X → Bool) (xs : List X) (x : X) → find test xs ≡ Some x → test x ≡ true
found_is test [] x is = absurd cc
found_is test (y ∷ xs) x is = grind (arith, common_steps, found_is test xs x)

-- what holds where something is found
pub found_some : {X : Type 0} (P : Type 0) (o : Option X) → ((x : X) → o ≡ Some x → P) → is_some o ≡ true → P
found_some P None leads some = absurd cc
found_some P (Some x) leads some = leads x refl

-- what holds of each, if it follows from what holds of each
pub each-weaker : {X : Type 0} (P Q : X → Type 0) → ((x : X) → P x → Q x) → (xs : List X) → AllByRecursion P xs → AllByRecursion Q xs
each-weaker P Q leads [] all = tt
each-weaker P Q leads (x ∷ xs) all = (leads x all.0, each-weaker P Q leads xs all.1)

-- and of each that a function gives for them
pub each-map : {X Y : Type 0} (P : X → Type 0) (Q : Y → Type 0) (f : X → Y) → ((x : X) → P x → Q (f x)) → (xs : List X) → AllByRecursion P xs → AllByRecursion Q (map f xs)
each-map P Q f leads [] all = tt
each-map P Q f leads (x ∷ xs) all = (leads x all.0, each-map P Q f leads xs all.1)
