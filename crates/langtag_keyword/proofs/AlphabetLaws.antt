-- The order of the alphabet.
use Rattle.langtag_keyword.proofs.Common.{◌≡◌, ℕ, ◌+◌, ◌<◌, ◌≤◌, true, false, nat_lt, List, [], ◌∷◌, ◌++◌, length, get_or, take, refl, sym, ap, ◌∙◌, arith, append_assoc, ◌||◌, Bool, map, subst, false≢true, nat_tests, map-append, take_all, take_more, fold_byte, fold_text, are_alike, in_alphabet, is_before, put_among, common_steps, AllByRecursion, list_any, before_key, fold_text-twice, are_alike-decides, each-weaker}
use Rattle.langtag_scan.proofs.Prelude.{Less, Ordering, nat_list_cmp_total, is_eq-slice_cmp, bytes_eq-Decides, slice_cmp, is_eq, is_lt, nat_cmp, ordering_reverse}
use Rattle.langtag_text.specs.Output.{with_subtag}

-- ---- the order

is_less : (r : Ordering) → is_lt r ≡ true → r ≡ Less
is_less r h = grind (arith, common_steps, false≢true)

ties : (r : Ordering) → is_lt r ≡ false → is_lt (ordering_reverse r) ≡ false → is_eq r ≡ true
ties r a b = grind (arith, common_steps, false≢true)

pub before-back : (a b : List ℕ) → is_before a b ≡ true → is_before b a ≡ false
before-back a b one = ap is_lt (nat_list_cmp_total.antisymm b a ∙ ap ordering_reverse (is_less _ one))

pub before-tie : (a b : List ℕ) → is_before a b ≡ false → is_before b a ≡ false → a ≡ b
before-tie a b one two = (bytes_eq-Decides a b).0 (sym (is_eq-slice_cmp a b) ∙ ties (slice_cmp nat_cmp a b) one (ap is_lt (sym (nat_list_cmp_total.antisymm b a)) ∙ two))

-- ---- texts that rise

abbrev pub Under : List ℕ → List (List ℕ) → Type 0
Under s [] = Unit {0}
Under s (t ∷ ts) = is_before s t ≡ true

abbrev pub Rise : List (List ℕ) → Type 0
Rise [] = Unit {0}
Rise (s ∷ ss) = Under s ss × Rise ss

under-put : (s x : List ℕ) (ss : List (List ℕ)) → is_before s x ≡ true → Under s ss → Under s (put_among x ss)
under-put s x ss below under = grind (arith, nat_tests)

pub rise-put : (x : List ℕ) (ss : List (List ℕ)) → Rise ss → Rise (put_among x ss)
rise-put x [] rise = (tt, tt)
rise-put x (s ∷ ss) rise = grind (arith, nat_tests, rise-put x ss rise.1, under-put s x ss)

pub rise-in_alphabet : (ss : List (List ℕ)) → Rise (in_alphabet ss)
rise-in_alphabet [] = tt
rise-in_alphabet (s ∷ ss) = rise-put (fold_text s) (in_alphabet ss) (rise-in_alphabet ss)

-- ---- one of two texts has ended

pub before-left : (a b : List ℕ) → length a < 1 → nat_lt (length a) (length b) ≡ is_before (fold_text a) (fold_text b)
before-left a b none = grind (arith, common_steps)

pub before-right : (a b : List ℕ) → length b < 1 → nat_lt (length a) (length b) ≡ is_before (fold_text a) (fold_text b)
before-right [] [] none = refl
before-right (x ∷ a) [] none = grind (arith, nat_tests)
before-right a (y ∷ b) none = absurd (omega (arith, none))

-- ---- bytes after a hyphen

pub byte-put :
    (text sub items : List ℕ) (k r : ℕ) → items ≡ sub → k < length items → r ≡ fold_byte (get_or items k 0) →
    (text ++ fold_text (take k sub)) ++ r ∷ [] ≡ text ++ fold_text (take (k + 1) sub)
byte-put text sub items k r same inside is = grind (arith, common_steps, take_more, append_assoc, map-append)

pub bytes-put : (text sub : List ℕ) (k : ℕ) → length sub ≤ k → with_subtag text [] ++ fold_text (take k sub) ≡ with_subtag text (fold_text sub)
unfolding with_subtag
bytes-put text sub k all = grind (arith, nat_tests, take_all k sub all, append_assoc)

-- ---- what holds of each

module _ {X : Type 0} (P : X → Type 0) where
  pub each-back : (xs ys : List X) → AllByRecursion P (xs ++ ys) → AllByRecursion P ys
  each-back [] ys all = all
  each-back (x ∷ xs) ys all = each-back xs ys all.1

module _ (P : List ℕ → Type 0) where
  pub each-before : (test : List ℕ → Bool) (ss : List (List ℕ)) → AllByRecursion P ss → AllByRecursion P (before_key test ss)
  each-before test [] all = tt
  each-before test (s ∷ ss) all = grind (arith, common_steps, each-before test ss all.1)

  pub each-put : (x : List ℕ) (ss : List (List ℕ)) → P x → AllByRecursion P ss → AllByRecursion P (put_among x ss)
  each-put x [] one all = (one, tt)
  each-put x (s ∷ ss) one all = grind (arith, common_steps, each-put x ss one all.1)

  pub each-alphabet : ((s : List ℕ) → P s → P (fold_text s)) → (ss : List (List ℕ)) → AllByRecursion P ss → AllByRecursion P (in_alphabet ss)
  each-alphabet folded [] all = tt
  each-alphabet folded (s ∷ ss) all = each-put (fold_text s) (in_alphabet ss) (folded s all.0) (each-alphabet folded ss all.1)

-- a test of any text, with one text more
pub any-put : (test : List ℕ → Bool) (x : List ℕ) (ss : List (List ℕ)) → list_any test (put_among x ss) ≡ (test x || list_any test ss)
any-put test x [] = refl
any-put test x (s ∷ ss) = grind (arith, nat_tests, any-put test x ss, before-tie x s)

-- ---- texts in lowercase

-- each is in lowercase
abbrev pub AreLower : List (List ℕ) → Type 0
AreLower ss = AllByRecursion (λ s. fold_text s ≡ s) ss

pub lower-in_alphabet : (ss : List (List ℕ)) → AreLower (in_alphabet ss)
lower-in_alphabet [] = tt
lower-in_alphabet (s ∷ ss) = each-put (λ s. fold_text s ≡ s) (fold_text s) (in_alphabet ss) (fold_text-twice s) (lower-in_alphabet ss)

pub in_alphabet-risen : (ss : List (List ℕ)) → AreLower ss → Rise ss → in_alphabet ss ≡ ss
in_alphabet-risen [] lower rise = refl
in_alphabet-risen (s ∷ ss) lower rise = grind (arith, nat_tests, lower.0, in_alphabet-risen ss lower.1 rise.1)

pub in_alphabet-twice : (ss : List (List ℕ)) → in_alphabet (in_alphabet ss) ≡ in_alphabet ss
in_alphabet-twice ss = in_alphabet-risen (in_alphabet ss) (lower-in_alphabet ss) (rise-in_alphabet ss)

-- ---- texts that are alike

in_alphabet-fold : (ss : List (List ℕ)) → in_alphabet (map fold_text ss) ≡ in_alphabet ss
in_alphabet-fold [] = refl
in_alphabet-fold (s ∷ ss) = ap (λ t. put_among t (in_alphabet (map fold_text ss))) (fold_text-twice s) ∙ ap (put_among (fold_text s)) (in_alphabet-fold ss)

pub in_alphabet-alike : (ss ts : List (List ℕ)) → map fold_text ss ≡ map fold_text ts → in_alphabet ss ≡ in_alphabet ts
in_alphabet-alike ss ts alike = sym (in_alphabet-fold ss) ∙ ap in_alphabet alike ∙ in_alphabet-fold ts

-- ---- which texts are among others that rise

-- whether a text is among others, ignoring case
abbrev pub among : List ℕ → List (List ℕ) → Bool
among k ss = list_any (λ s. are_alike s k) ss

pub among-first : (k : List ℕ) (ss : List (List ℕ)) → among k (k ∷ ss) ≡ true
among-first k ss = ap (λ b. b || among k ss) ((are_alike-decides k k).1 refl)

-- what holds of what is among some texts holds of each of them
pub each-among : (P : List ℕ → Type 0) (ss : List (List ℕ)) → ((k : List ℕ) → among k ss ≡ true → P k) → AllByRecursion P ss
each-among P [] holds = tt
each-among P (s ∷ ss) holds = (holds s (among-first s ss), each-among P ss (λ k there. holds k (grind (arith, nat_tests, there))))

-- ---- in the order of the alphabet

pub among-alphabet : (k : List ℕ) (ss : List (List ℕ)) → among k (in_alphabet ss) ≡ among k ss
among-alphabet k [] = refl
among-alphabet k (s ∷ ss) = grind (arith, nat_tests, any-put (λ t. are_alike t k) (fold_text s) (in_alphabet ss), fold_text-twice s, among-alphabet k ss)

-- ---- a text before others

under-next : (s t : List ℕ) (ts : List (List ℕ)) → is_before s t ≡ true → Under t ts → Under s ts
under-next s t [] below under = tt
under-next s t (u ∷ us) below under = ap is_lt (nat_list_cmp_total.trans s t u (is_less _ below) (is_less _ under))

-- texts in lowercase that rise come before each that follows, whatever the case
pub under-each :
    (s : List ℕ) (ss : List (List ℕ)) → fold_text s ≡ s → AreLower ss → Under s ss → Rise ss → AllByRecursion (λ t. is_before (fold_text s) (fold_text t) ≡ true) ss
under-each s [] low lowers under rise = tt
under-each s (t ∷ ts) low lowers under rise = (grind (arith, nat_tests, low, lowers.0, under), under-each s ts low lowers.1 (under-next s t ts under rise.0) rise.1)

-- a text in lowercase that comes before another is not alike it
pub before-apart : (s t : List ℕ) → fold_text s ≡ s → fold_text t ≡ t → is_before s t ≡ true → (are_alike s t ≡ false) × (are_alike t s ≡ false)
before-apart s t low other below = grind (arith, nat_tests, are_alike-decides s t, are_alike-decides t s, before-back s s)

pub after-apart : (s : List ℕ) (ss : List (List ℕ)) → AllByRecursion (λ t. is_before (fold_text s) (fold_text t) ≡ true) ss → AllByRecursion (λ t. are_alike t s ≡ false) ss
after-apart s =
    each-weaker (λ t. is_before (fold_text s) (fold_text t) ≡ true) (λ t. are_alike t s ≡ false)
    (λ t below. grind (arith, nat_tests, are_alike-decides t s, before-back (fold_text s) (fold_text s), below))

-- nor is it among those that it comes before
pub not-among : (k s : List ℕ) (ss : List (List ℕ)) → fold_text s ≡ fold_text k → fold_text s ≡ s → AreLower ss → Under s ss → Rise ss → among k ss ≡ false
not-among k s [] same low lowers under rise = refl
not-among k s (t ∷ ts) same low lowers under rise =
    grind (arith, nat_tests, not-among k s ts same low lowers.1 (under-next s t ts under rise.0) rise.1, before-apart s t low lowers.0 under)

-- ---- lists among which the same texts are

pub same-risen :
    (xs ys : List (List ℕ)) → AreLower xs → AreLower ys → Rise xs → Rise ys → ((k : List ℕ) → fold_text k ≡ k → among k xs ≡ among k ys) → xs ≡ ys
same-risen [] [] lx ly rx ry same = refl
same-risen [] (y ∷ ys) lx ly rx ry same = absurd (false≢true (same y ly.0 ∙ among-first y ys))
same-risen (x ∷ xs) [] lx ly rx ry same = absurd (false≢true (sym (same x lx.0) ∙ among-first x xs))
same-risen (x ∷ xs) (y ∷ ys) lx ly rx ry same =
    let tie : x ≡ y =
    grind (arith, nat_tests, before-tie x y, not-among y y (x ∷ xs) refl ly.0 lx, not-among x x (y ∷ ys) refl lx.0 ly, same x lx.0, same y ly.0, among-first) in
    let rest : xs ≡ ys = same-risen xs ys lx.1 ly.1 rx.1 ry.1 (λ k low. grind (arith, nat_tests, tie, same k low, not-among k x xs, not-among k y ys, are_alike-decides x k, are_alike-decides y k)) in
    cc

-- ---- a text among others that rise: those before it, and those after it

pub record KeySplit (key : List ℕ) (keys : List (List ℕ)) : Type 0 where
  pub before : List (List ℕ)
  pub after : List (List ℕ)
  pub is : keys ≡ before ++ key ∷ after
  pub early : AllByRecursion (λ j. is_before (fold_text key) (fold_text j) ≡ false) before
  pub late : AllByRecursion (λ j. is_before (fold_text key) (fold_text j) ≡ true) after
  pub before_others : AllByRecursion (λ j. are_alike j key ≡ false) before
  pub after_others : AllByRecursion (λ j. are_alike j key ≡ false) after

pub key-split : (key : List ℕ) (keys : List (List ℕ)) → fold_text key ≡ key → AreLower keys → Rise keys → among key keys ≡ true → KeySplit key keys
key-split key [] low lowers rise is = absurd (false≢true is)
key-split key (j ∷ keys) low lowers rise is = by_test (are_alike j key) refl (key-split key keys low lowers.1 rise.1) is
  where
    by_test : (b : Bool) → are_alike j key ≡ b → (among key keys ≡ true → KeySplit key keys) → (b || among key keys) ≡ true → KeySplit key (j ∷ keys)
    by_test true alike later is =
        let same : j ≡ key = sym lowers.0 ∙ (are_alike-decides j key).0 alike ∙ low in
        let after = subst (λ t. AllByRecursion (λ i. is_before (fold_text t) (fold_text i) ≡ true) keys) same (under-each j keys lowers.0 lowers.1 rise.0 rise.1) in
        record {
          before = [];
          after = keys;
          is = ap (λ t. t ∷ keys) same;
          early = tt;
          late = after;
          before_others = tt;
          after_others = after-apart key keys after;
        }
    by_test false apart later is =
        let found = later is in
        let above = subst (AllByRecursion (λ i. is_before (fold_text j) (fold_text i) ≡ true)) found.is (under-each j keys lowers.0 lowers.1 rise.0 rise.1) in
        let below = (each-back (λ i. is_before (fold_text j) (fold_text i) ≡ true) found.before (key ∷ found.after) above).0 in
        record {
          before = j ∷ found.before;
          after = found.after;
          is = ap (λ t. j ∷ t) found.is;
          early = (before-back (fold_text j) (fold_text key) below, found.early);
          late = found.late;
          before_others = (apart, found.before_others);
          after_others = found.after_others;
        }
