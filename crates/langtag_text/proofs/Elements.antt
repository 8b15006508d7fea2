-- An element of a list, by its index.
use Rattle.langtag_scan.proofs.Prelude.{◌≡◌, ℕ, ◌<◌, Bool, true, List, length, get_or, list_all}
use Rattle.std.proofs.lemmas.List.Sums.{AllPass-from_list_all}

pub list_all_get : {A : Type 0} (p : A → Bool) (xs : List A) (i : ℕ) (a : A) → list_all p xs ≡ true → i < length xs → p (get_or xs i a) ≡ true
list_all_get p xs i a all inside = AllPass-from_list_all p xs all i a inside
