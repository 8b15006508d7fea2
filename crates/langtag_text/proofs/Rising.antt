-- Numbers that rise, and what a search among them finds.
use Rattle.std.proofs.lemmas.List.{get_or_default}
use Rattle.langtag_scan.proofs.Prelude.{◌∙◌, list_any_at, list_any_none, common_steps, ◌≡◌, ◌≢◌, ℕ, zero, suc, ◌<◌, ◌≤◌, true, ◌==◌, Bool, leb, ltb, List, [], ◌∷◌, length, get_or, inl, inr, sym, arith, Result, list_any, and_parts, ltb-true, eq-eqb, ne_eqb, cases_lt}
use Rattle.std.specs.Prelude.{◌&&◌, MatchResult, Ok, Err, is_ok}
use Rattle.langtag_text.specs.Numbers.{climbs_from}

-- each number is at least the one before it
abbrev pub rises_from : ℕ → List ℕ → Bool
rises_from low [] = true
rises_from low (n ∷ numbers) = leb low n && rises_from n numbers

-- a list that climbs is above its lower bound
pub above_first : (low : ℕ) (numbers : List ℕ) (k : ℕ) → climbs_from low numbers ≡ true → k < length numbers → low < get_or numbers k 0
above_first low [] k climbs inside = absurd (omega (arith, inside))
above_first low (n ∷ numbers) zero climbs inside = ltb-true low n (and_parts (ltb low n) (climbs_from n numbers) climbs).0
above_first low (n ∷ numbers) (suc k) climbs inside = grind (arith, common_steps, and_parts, ltb-true, above_first n numbers k)

climbs_at : (low : ℕ) (numbers : List ℕ) (i j : ℕ) → climbs_from low numbers ≡ true → i ≤ j → j < length numbers → get_or numbers i 0 ≤ get_or numbers j 0
climbs_at low [] i j climbs order inside = absurd (omega (arith, inside))
climbs_at low (n ∷ numbers) zero zero climbs order inside = omega arith
climbs_at low (n ∷ numbers) zero (suc j) climbs order inside = grind (arith, common_steps, and_parts, above_first n numbers j)
climbs_at low (n ∷ numbers) (suc i) zero climbs order inside = absurd (omega (arith, order))
climbs_at low (n ∷ numbers) (suc i) (suc j) climbs order inside = grind (arith, common_steps, and_parts, climbs_at n numbers i j)

-- a list that climbs can be searched
pub climb_searched : (numbers : List ℕ) → climbs_from 0 numbers ≡ true → (i j : ℕ) → i ≤ j → j < length numbers → get_or numbers i 0 ≤ get_or numbers j 0
climb_searched numbers climb i j order inside = climbs_at 0 numbers i j climb order inside

-- the answer of a binary search, which `searched` reads
abbrev pub IsSearched : List ℕ → ℕ → Result ℕ ℕ → Type 0
IsSearched numbers key found =
    MatchResult found (λ i. (i < length numbers) × (get_or numbers i 0 ≡ key))
    (λ i. (i ≤ length numbers) × ((k : ℕ) → k < i → get_or numbers k 0 < key) × ((k : ℕ) → i ≤ k → k < length numbers → key < get_or numbers k 0))

-- what was not found stands nowhere
pub searched_apart : (numbers : List ℕ) (key i : ℕ) → IsSearched numbers key (Err i) → (k : ℕ) → k < length numbers → get_or numbers k 0 ≢ key
searched_apart numbers key i at = λ k inside same. elim (cases_lt k i) [
  | inl before ↦ let below = at.1 k before in omega (arith, below, same)
  | inr after ↦ let above = at.2 k after inside in omega (arith, above, same)
]

pub found_among : (numbers : List ℕ) (key : ℕ) (found : Result ℕ ℕ) → IsSearched numbers key found → is_ok found ≡ list_any (λ n. n == key) numbers
found_among numbers key (Ok i) at = sym (list_any_at (λ n. n == key) numbers i 0 at.0 (eq-eqb _ key at.1))
found_among numbers key (Err i) at =
    let apart = searched_apart numbers key i at in
    sym (list_any_none (λ n. n == key) numbers (λ k d inside. ne_eqb _ key (λ same. apart k inside (get_or_default numbers k 0 d inside ∙ same))))
