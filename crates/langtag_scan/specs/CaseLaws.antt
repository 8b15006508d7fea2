-- The laws that `==`, the order and the hash of texts obey if case is ignored (RFC 5646 section 2.1.1). Equality is an
-- equivalence, and the order is total. Two texts are equal in the order if and only if they are alike, and alike texts
-- feed a hasher the same bytes. Each law is stated once for texts, and then for a type K, where `f` maps a value of K
-- to its text.
use Rattle.std.proofs.Common.{ap, sym, ◌∙◌, ◌≡◌, ℕ, IsTrue, List, [], ◌∷◌, ◌++◌, map, refl, ◌==◌, ◌&&◌, Decides, bytes_eq}
use Rattle.std.proofs.Math.Bool.{and-false}
use Rattle.langtag_scan.specs.Prelude.{nat_cmp, on, eq_by_cmp, as_partial_cmp, IsEquivalence, IsPartialEquivalence, IsTotalOrder, IsPartialOrder, Agrees, partial_equiv_from_equiv, on_equiv, on_total, unsigned_ties, partial_order_from_agreeing_total, nat_list_cmp_total, nat_list_eq_equiv, lists_ties, bytes_decides}
use Rattle.langtag_scan.specs.Case.{fold_byte, fold_text, Alike, are_alike, order_key, case_cmp, case_writes}

-- the test `are_alike` decides whether texts are alike
pub are_alike-decides : (a b : List ℕ) → Decides (are_alike a b) (Alike a b)
are_alike-decides a b = bytes_decides (fold_text a) (fold_text b)

are_alike-equivalence : IsEquivalence are_alike
are_alike-equivalence = on_equiv fold_text nat_list_eq_equiv

case_cmp-total : IsTotalOrder case_cmp
case_cmp-total = on_total order_key nat_list_cmp_total

-- appending the same number to two texts does not change whether they are equal
bytes_eq-push : (end : ℕ) (xs ys : List ℕ) → bytes_eq (xs ++ end ∷ []) (ys ++ end ∷ []) ≡ bytes_eq xs ys
bytes_eq-push end [] [] = nat_list_eq_equiv.refl (end ∷ [])
bytes_eq-push end [] (y ∷ []) = and-false (end == y)
bytes_eq-push end [] (y ∷ z ∷ ys) = and-false (end == y)
bytes_eq-push end (x ∷ []) [] = and-false (x == end)
bytes_eq-push end (x ∷ z ∷ xs) [] = and-false (x == end)
bytes_eq-push end (x ∷ xs) (y ∷ ys) = ap (λ rest. (x == y) && rest) (bytes_eq-push end xs ys)

-- two texts are equal in the order if and only if they are alike
pub case_cmp-ties : (a b : List ℕ) → are_alike a b ≡ eq_by_cmp case_cmp a b
case_cmp-ties a b = sym (bytes_eq-push 256 (fold_text a) (fold_text b)) ∙ lists_ties nat_cmp unsigned_ties (order_key a) (order_key b)

-- what a text feeds to a hasher depends only on the folded text
case_writes-fold_text : (text : List ℕ) → case_writes text ≡ map (λ b. b ∷ []) (fold_text text)
case_writes-fold_text [] = refl
case_writes-fold_text (b ∷ text) = ap (λ rest. (fold_byte b ∷ []) ∷ rest) (case_writes-fold_text text)

case_writes-alike : (a b : List ℕ) → IsTrue (are_alike a b) → case_writes a ≡ case_writes b
case_writes-alike a b alike =
    case_writes-fold_text a ∙ ap (map (λ b. b ∷ [])) ((are_alike-decides a b).0 alike) ∙ sym (case_writes-fold_text b)

module _ {K : Type 0} (f : K → List ℕ) where
  pub on_alike_equiv : IsEquivalence (on f are_alike)
  on_alike_equiv = on_equiv f are_alike-equivalence

  pub on_alike_per : IsPartialEquivalence (on f are_alike)
  on_alike_per = partial_equiv_from_equiv on_alike_equiv

  pub on_case_total : IsTotalOrder (on f case_cmp)
  on_case_total = on_total f case_cmp-total

  pub on_case_agrees : Agrees (as_partial_cmp (on f case_cmp)) (on f case_cmp)
  on_case_agrees x y = refl

  pub on_case_ties : (x y : K) → on f are_alike x y ≡ eq_by_cmp (on f case_cmp) x y
  on_case_ties x y = case_cmp-ties (f x) (f y)

  pub on_case_partial : IsPartialOrder (on f are_alike) (as_partial_cmp (on f case_cmp))
  on_case_partial = partial_order_from_agreeing_total (on f case_cmp) on_case_total on_case_agrees on_case_ties

  pub on_case_respects : (x y : K) → IsTrue (on f are_alike x y) → case_writes (f x) ≡ case_writes (f y)
  on_case_respects x y = case_writes-alike (f x) (f y)
