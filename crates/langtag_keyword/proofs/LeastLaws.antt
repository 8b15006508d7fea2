-- Numbers that rise, and the least of numbers in any order.
use Rattle.langtag_scan.proofs.Prelude.{◌≡◌, ℕ, zero, suc, ◌+◌, ◌<◌, ◌≤◌, Bool, true, false, ◌==◌, ◌&&◌, ◌||◌, List, [], ◌∷◌, ◌++◌, length, get_or, set, take, drop, refl, ap, subst, ◌∙◌, arith, leb, ltb, filter, IsNonDecreasing, nat_tests, get_or-take, length-set, length-take, take-take, take_all, take_more_set, list_any_at, list_any-append, AllByRecursion}
use Rattle.langtag_keyword.specs.Least.{HoldsLeast, IsOffered, IsSettled, Least, AscendsFrom, has, is_within, ascending_after}

-- ---- numbers that rise

pub low-rise : (l n : ℕ) (ns : List ℕ) → AscendsFrom l ns → n ≤ l → has n ns ≡ false
low-rise l n [] rise below = refl
low-rise l n (m ∷ ms) rise below = grind (arith, nat_tests, low-rise m n ms rise.1)

rise-weaker : (l m : ℕ) (ns : List ℕ) → l ≤ m → AscendsFrom m ns → AscendsFrom l ns
rise-weaker l m [] below rise = tt
rise-weaker l m (n ∷ ns) below rise = (omega (arith, below, rise.0), rise.1)

-- numbers that rise are known by which numbers are among them
pub same-rise : (l : ℕ) (xs ys : List ℕ) → AscendsFrom l xs → AscendsFrom l ys → ((n : ℕ) → has n xs ≡ has n ys) → xs ≡ ys
same-rise l [] [] rx ry same = refl
same-rise l [] (y ∷ ys) rx ry same = absurd (grind (arith, nat_tests, same y))
same-rise l (x ∷ xs) [] rx ry same = absurd (grind (arith, nat_tests, same x))
same-rise l (x ∷ xs) (y ∷ ys) rx ry same =
    grind (arith, nat_tests, low-rise y x ys ry.1, low-rise x y xs rx.1, low-rise x x xs rx.1, low-rise y y ys ry.1, ry.1, same-rise y xs ys)

-- ---- those that pass a test

pub has-filter : (p : ℕ → Bool) (n : ℕ) (ns : List ℕ) → has n (filter p ns) ≡ (p n && has n ns)
has-filter p n [] = grind arith
has-filter p n (m ∷ ms) = grind (arith, nat_tests, has-filter p n ms)

rise-filter : (p : ℕ → Bool) (l : ℕ) (ns : List ℕ) → AscendsFrom l ns → AscendsFrom l (filter p ns)
rise-filter p l [] rise = tt
rise-filter p l (n ∷ ns) rise = grind (arith, nat_tests, rise-filter p n ns rise.1, rise-weaker l n (filter p ns))

-- ---- numbers above another one

abbrev pub above : ℕ → List ℕ → List ℕ
above last ns = filter (ltb last) ns

pub above-all : (last l : ℕ) (ns : List ℕ) → last ≤ l → AscendsFrom l ns → above last ns ≡ ns
above-all last l [] below rise = refl
above-all last l (n ∷ ns) below rise = grind (arith, nat_tests, rise.0, rise.1, above-all last n ns)

none-within : (last limit l : ℕ) (ns : List ℕ) → limit ≤ l → AscendsFrom l ns → filter (is_within last limit) ns ≡ []
none-within last limit l [] below rise = refl
none-within last limit l (n ∷ ns) below rise = grind (arith, nat_tests, rise.0, rise.1, none-within last limit n ns)

pub above-split : (last limit l : ℕ) (ns : List ℕ) → last ≤ limit → AscendsFrom l ns → above last ns ≡ filter (is_within last limit) ns ++ above limit ns
above-split last limit l [] order rise = refl
above-split last limit l (n ∷ ns) order rise = grind (arith, nat_tests, none-within last limit n ns, above-split last limit n ns order rise.1)

pub above-none : (most : ℕ) (ns : List ℕ) → AllByRecursion (λ n. n ≤ most) ns → above most ns ≡ []
above-none most [] all = refl
above-none most (n ∷ ns) all = grind (arith, nat_tests, above-none most ns all.1)

-- ---- numbers in order

-- none is less than the one before it
abbrev pub NeverFalls : ℕ → List ℕ → Type 0
NeverFalls l [] = Unit
NeverFalls l (n ∷ ns) = (l ≤ n) × NeverFalls n ns

falls-never : (l : ℕ) (ns : List ℕ) → IsNonDecreasing ns → (0 < length ns → l ≤ get_or ns 0 0) → NeverFalls l ns
falls-never l [] up first = tt
falls-never l (n ∷ ns) up first = (
  first (omega arith),
  falls-never n ns (λ i j d le inside. up (suc i) (suc j) d (omega (arith, le)) (omega (arith, inside))) (λ some. up 0 1 0 (omega arith) (omega (arith, some))),
)

low-sorted : (l n : ℕ) (ns : List ℕ) → NeverFalls l ns → n < l → has n ns ≡ false
low-sorted l n [] up below = refl
low-sorted l n (m ∷ ms) up below = grind (arith, nat_tests, low-sorted m n ms up.1)

-- ---- each once

pub rise-ascending : (last : ℕ) (ns : List ℕ) → AscendsFrom last (ascending_after last ns)
rise-ascending last [] = tt
rise-ascending last (n ∷ ns) = grind (arith, nat_tests, rise-ascending n ns, rise-ascending last ns)

has-ascending : (last n l : ℕ) (ns : List ℕ) → NeverFalls l ns → has n (ascending_after last ns) ≡ (ltb last n && has n ns)
has-ascending last n l [] up = grind arith
has-ascending last n l (m ∷ ms) up = grind (arith, nat_tests, has-ascending m n m ms up.1, has-ascending last n m ms up.1, low-sorted m n ms up.1)

-- numbers in any order, when they are sorted
pub settled_by : (old ns new : List ℕ) → IsNonDecreasing ns → ((n : ℕ) → has n ns ≡ has n old) → new ≡ ascending_after 0 ns → IsSettled old new
settled_by old ns new up same is = rw is (record { rise = rise-ascending 0 ns; same = λ n. has-ascending 0 n 0 ns (falls-never 0 ns up (λ some. omega arith)) ∙ ap (λ b. ltb 0 n && b) (same n) })

-- the numbers that are kept, in order, are those of all numbers that are within the limits
pub kept-within :
    (least : Least) (all ns : List ℕ) → AscendsFrom 0 all → HoldsLeast least all → IsSettled least.kept ns → ns ≡ filter (is_within least.last least.limit) all
kept-within least all ns rise holds settled =
    same-rise 0 _ _ settled.rise (rise-filter (is_within least.last least.limit) 0 all rise)
    (λ n. grind (arith, nat_tests, settled.same n, holds.same n, has-filter (is_within least.last least.limit) n all))

-- ---- each number that is greater than those before it is moved to the start

-- `count` numbers stand at the start, and those from `index` on as they stood
pub record Moved (all ns : List ℕ) (index count last : ℕ) : Type 0 where
  pub few : count ≤ index
  pub left : drop index ns ≡ drop index all
  pub so_far : take count ns ++ ascending_after last (drop index all) ≡ ascending_after 0 all

-- ---- one number more

least-first : (l k : ℕ) (ns : List ℕ) → AscendsFrom l ns → k < length ns → l < get_or ns k 0
least-first l k [] rise inside = absurd (omega arith)
least-first l zero (n ∷ ns) rise inside = rise.0
least-first l (suc k) (n ∷ ns) rise inside = omega (arith, rise.0, least-first n k ns rise.1 (omega (arith, inside)))

-- those up to an index are those up to the number at that index
has-take : (n k l : ℕ) (ns : List ℕ) → AscendsFrom l ns → k < length ns → has n (take (suc k) ns) ≡ (leb n (get_or ns k 0) && has n ns)
has-take n k l [] rise inside = absurd (omega arith)
has-take n zero l (m ∷ ms) rise inside = grind (arith, nat_tests, low-rise m n ms rise.1)
has-take n (suc k) l (m ∷ ms) rise inside = grind (arith, nat_tests, least-first m k ms rise.1, has-take n k m ms rise.1)

-- one number more was offered, and there was no room left
module _
    (last limit number : ℕ) (kept numbers : List ℕ) (count : ℕ) (over : last < number) (fits : number ≤ limit) (settled : IsSettled (kept ++ number ∷ []) (take count numbers)) where
  one_more : (n : ℕ) (ms : List ℕ) → has n (ms ++ number ∷ []) ≡ (has n ms || (number == n))
  one_more n ms = grind (arith, nat_tests, list_any-append (λ m. m == n) ms (number ∷ []))

  -- all numbers are kept
  pub offered_all : IsOffered (number ∷ []) (record { last = last; limit = limit; kept = kept }) (record { last = last; limit = limit; kept = take count numbers })
  offered_all = record {
    last = refl;
    holds = λ offered holds. record { order = holds.order; same = λ n. grind (arith, nat_tests, settled.same n, one_more n kept, one_more n offered, holds.same n) };
  }

  -- only the lower half is
  pub offered_half :
      (half k : ℕ) → half ≡ suc k → half ≤ count → count ≤ length numbers →
      IsOffered (number ∷ []) (record { last = last; limit = limit; kept = kept }) (record { last = last; limit = get_or numbers k 0; kept = take half numbers })
  offered_half half k is few within =
      let ns = take count numbers in
      let most = get_or numbers k 0 in
      let long : k < length ns = omega (arith, length-take count numbers, is, few, within) in
      let inside : get_or ns k 0 ≡ most = get_or-take count numbers k 0 (omega (arith, is, few)) in
      let there : has most ns ≡ true = list_any_at (λ m. m == most) ns k 0 long (grind (arith, nat_tests, inside)) in
      let part : (n : ℕ) → has n (take half numbers) ≡ (leb n most && has n ns) = λ n. grind (arith, nat_tests, take-take half count numbers few, is, has-take n k 0 ns settled.rise long, inside) in
      record {
        last = refl;
        holds = λ offered holds.
            let bounds : (last < most) × (most ≤ limit) = grind (arith, nat_tests, settled.same most, one_more most kept, holds.same most) in
            record { order = bounds.0; same = λ n. grind (arith, nat_tests, part n, settled.same n, one_more n kept, one_more n offered, holds.same n, bounds.0, bounds.1) };
      }

-- the last of the numbers fills the room
pub filled :
    (numbers : List ℕ) (count number : ℕ) (ns : List ℕ) → length numbers ≡ count + 1 → IsSettled (set numbers count number) ns → IsSettled (take count numbers ++ number ∷ []) ns
filled numbers count number ns room settled =
    let whole : set numbers count number ≡ take count numbers ++ number ∷ [] =
    grind (arith, nat_tests, take_all (count + 1) (set numbers count number), length-set numbers count number, take_more_set numbers count number) in
    subst (λ old. IsSettled old ns) whole settled
