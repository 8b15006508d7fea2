-- What is known of the first repeat when the first so many members were looked at, one by one or a block at a time.
use Rattle.langtag_scan.proofs.Prelude.{eq-eqb, ◌≡◌, ℕ, ◌+◌, ◌<◌, Bool, true, false, cond, List, [], ◌∷◌, ◌++◌, length, get_or, take, drop, slice_get, None, Some, refl, ap, sym, subst, ◌∙◌, arith, append-nil, append_assoc, zero, suc, ◌-◌, ◌≤◌, ◌&&◌, ◌==◌, set, map, IsTrue, add-one, list_any, list_all, false_from_ne_true, and_parts, cases_lt, common_steps, get_or-set_at, at_drop_more, take_more, length-take, length-drop, get_or-set_other, get_or-map, get_or-take, get_or-drop, take-append-drop, drop_all, list_any_at, Any-from_list_any, list_any_none, list_any-append, list_all-append, IsNonDecreasing, or-true, or-false, eqb_tells, list_any-IsPermutation, nat_tests}
use Rattle.std.specs.List.{AllPairs}
use Rattle.std.proofs.lemmas.List.{get_or_default, map_push}
use Rattle.std.proofs.lemmas.List.Quantifiers.{all_pairs_push}
use Rattle.langtag_place.specs.Repeat.{repeat_index_after, repeat_index, repeat, IsFirstRepeat, IsFirstRepeatAt}
use Rattle.langtag_scan.specs.Grammar.{are_alike, folded_number, is_variant}
use Rattle.langtag_place.specs.VariantBlocks.{HasNoRepeatBefore, IsPlaceOf, AreMet, HoldsFrom}
use Rattle.langtag_scan.proofs.Laws.{among-numbers, folded_number-tells, of_variant}

-- ---- a walk that has come to a member

-- what is left begins with the member at this place
pub record IsAt {A : Type 0} (xs : List A) (n : ℕ) (x : A) (rest : List A) : Type 0 where
  pub below : n < length xs
  pub member : x ≡ get_or xs n x
  pub later : drop (n + 1) xs ≡ rest

pub IsAt-drop : {A : Type 0} (xs : List A) (n : ℕ) (x : A) (rest : List A) → drop n xs ≡ x ∷ rest → IsAt xs n x rest
IsAt-drop xs n x rest left =
    let below : n < length xs = omega (arith, ap length left, length-drop n xs) in
    let here : get_or xs n x ∷ drop (n + 1) xs ≡ x ∷ rest = sym (at_drop_more (λ ys. ys) xs n x below) ∙ left in
    record { below = below; member = cc; later = cc }

pub slice_get-seam : {A : Type 0} (before after : List A) (x : A) → slice_get (before ++ x ∷ after) (length before) ≡ Some x
slice_get-seam [] after x = refl
slice_get-seam (y ∷ before) after x = slice_get-seam before after x

module _ {A : Type 0} (alike : A → A → Bool) where
  turn-by :
      (xs : List A) (n : ℕ) (x : A) (rest : List A) (seen : Bool) → repeat_index alike xs ≡ repeat_index_after alike (take n xs) (drop n xs) →
      drop n xs ≡ x ∷ rest → list_any (alike x) (take n xs) ≡ seen →
      repeat_index alike xs ≡ cond seen (Some (length (take n xs))) (repeat_index_after alike (take (n + 1) xs) (drop (n + 1) xs))
  turn-by xs n x rest seen so_far left is =
      grind (arith, common_steps, IsAt-drop xs n x rest left, at_drop_more, take_more)

  -- the member is alike an earlier one
  pub repeat-found :
      (xs : List A) (n : ℕ) (x : A) (rest : List A) → repeat_index alike xs ≡ repeat_index_after alike (take n xs) (drop n xs) →
      drop n xs ≡ x ∷ rest → list_any (alike x) (take n xs) ≡ true → repeat_index alike xs ≡ Some n
  repeat-found xs n x rest so_far left seen = grind (arith, common_steps, turn-by xs n x rest, length-take n xs)

  -- it is not, and the walk goes on
  pub repeat-later :
      (xs : List A) (n : ℕ) (x : A) (rest : List A) → repeat_index alike xs ≡ repeat_index_after alike (take n xs) (drop n xs) →
      drop n xs ≡ x ∷ rest → list_any (alike x) (take n xs) ≡ false →
      repeat_index alike xs ≡ repeat_index_after alike (take (n + 1) xs) (drop (n + 1) xs)
  repeat-later xs n x rest so_far left new = turn-by xs n x rest false so_far left new

  -- no member is left
  pub repeat-none :
      (xs : List A) (n : ℕ) → repeat_index alike xs ≡ repeat_index_after alike (take n xs) (drop n xs) → drop n xs ≡ [] → repeat_index alike xs ≡ None
  repeat-none xs n so_far left = so_far ∙ ap (repeat_index_after alike (take n xs)) left

  -- ---- the laws of `repeat_index` and `repeat`

  HasNoRepeat-push :
      (seen : List A) (x : A) → AllPairs (λ y z. alike z y ≡ false) seen → list_any (alike x) seen ≡ false →
      AllPairs (λ y z. alike z y ≡ false) (seen ++ x ∷ [])
  HasNoRepeat-push seen x none new = grind (arith, common_steps, all_pairs_push, false_from_ne_true, list_any_at (alike x) seen)

  repeat_index_after-first :
      (xs seen : List A) → AllPairs (λ y z. alike z y ≡ false) seen → IsFirstRepeatAt alike (seen ++ xs) (repeat_index_after alike seen xs)
  repeat_index_after-first [] seen none = subst (AllPairs (λ y z. alike z y ≡ false)) (sym (append-nil seen)) none
  repeat_index_after-first (x ∷ xs) seen none =
      by_test (list_any (alike x) seen) refl (λ new. repeat_index_after-first xs (seen ++ x ∷ []) (HasNoRepeat-push seen x none new))
    where
      by_test :
          (t : Bool) → list_any (alike x) seen ≡ t →
          (list_any (alike x) seen ≡ false → IsFirstRepeatAt alike ((seen ++ x ∷ []) ++ xs) (repeat_index_after alike (seen ++ x ∷ []) xs)) →
          IsFirstRepeatAt alike (seen ++ x ∷ xs) (cond t (Some (length seen)) (repeat_index_after alike (seen ++ x ∷ []) xs))
      by_test true is later = (x, (seen, xs, refl, none, Any-from_list_any (alike x) seen is), refl)
      by_test false is later = subst (λ all. IsFirstRepeatAt alike all (repeat_index_after alike (seen ++ x ∷ []) xs)) (append_assoc seen (x ∷ []) xs) (later is)

  pub repeat_index-first : (xs : List A) → IsFirstRepeatAt alike xs (repeat_index alike xs)
  repeat_index-first xs = repeat_index_after-first xs [] (λ i j d before inside. absurd (omega arith))

  -- `repeat` is what it is called
  pub repeat-first : (xs : List A) → IsFirstRepeat alike xs (repeat alike xs)
  repeat-first xs = grind (arith, common_steps, repeat_index-first, slice_get-seam)

-- what the functions of repeats cite
pub ruleset repeat_laws = (repeat-first, repeat_index-first)

pub ruleset few_steps = (repeat-later, IsAt-drop)

-- ---- the place of a number in a block

-- a number that does not stand at its place stands nowhere
pub record IsAbsent (block : List ℕ) (number : ℕ) : Type 0 where
  pub differs : (k d : ℕ) → k < length block → get_or block k d ≡ number → ⊥

pub IsAbsent-place :
    (block : List ℕ) (number place : ℕ) → IsNonDecreasing block → IsPlaceOf block number place →
    (place < length block → get_or block place 0 ≡ number → ⊥) → IsAbsent block number
IsAbsent-place block number place rises at apart = grind (arith, nat_tests, get_or_default block, cases_lt)

-- ---- one more number is met

push-other : (numbers : List ℕ) (number x : ℕ) → (number ≡ x → ⊥) → list_any (λ other. other == x) (numbers ++ number ∷ []) ≡ list_any (λ other. other == x) numbers
push-other numbers number x differs = grind (arith, common_steps, eqb_tells number x, list_any-append, or-false)

pub AreMet-absent :
    (block : List ℕ) (met : List Bool) (numbers : List ℕ) (number : ℕ) → IsAbsent block number → AreMet block met numbers → AreMet block met (numbers ++ number ∷ [])
AreMet-absent block met numbers number absent before place first = grind (arith, common_steps, push-other numbers number (get_or block place 0))

pub AreMet-present :
    (block : List ℕ) (met after : List Bool) (numbers : List ℕ) (number place : ℕ) → length block ≤ length met → IsPlaceOf block number place →
    place < length block → get_or block place 0 ≡ number → after ≡ set met place true → AreMet block met numbers → AreMet block after (numbers ++ number ∷ [])
AreMet-present block met after numbers number place room at inside same is before other first =
    grind (arith, common_steps, cases_lt, get_or-set_at met, get_or-set_other met, push-other numbers, eqb_tells, list_any-append, or-true)

pub again-absent :
    (block numbers : List ℕ) (number : ℕ) → IsAbsent block number →
    false ≡ (list_any (λ other. other == number) block && list_any (λ other. other == number) numbers)
again-absent block numbers number absent = grind (arith, common_steps, list_any_none, eqb_tells)

-- ---- the variants before an index

-- no repeat is among them: `repeat` has come to the others
pub repeat-so_far :
    (texts : List (List ℕ)) (n : ℕ) → n ≤ length texts → HasNoRepeatBefore n texts → repeat_index are_alike texts ≡ repeat_index_after are_alike (take n texts) (drop n texts)
repeat-so_far texts zero within none = refl
repeat-so_far texts (suc n) within none =
    grind (arith, common_steps, add-one n, repeat-later are_alike texts n (get_or texts n []) (drop (n + 1) texts), repeat-so_far texts n, at_drop_more)

pub repeat-past : (texts : List (List ℕ)) (n : ℕ) → n ≡ length texts → HasNoRepeatBefore n texts → repeat_index are_alike texts ≡ None
repeat-past texts n is none = repeat-none are_alike texts n (repeat-so_far texts n (omega (arith, is)) none) (drop_all n texts (omega (arith, is)))

pub repeat-at :
    (texts : List (List ℕ)) (n : ℕ) (text : List ℕ) (rest : List (List ℕ)) → HasNoRepeatBefore n texts → IsAt texts n text rest → drop n texts ≡ text ∷ rest →
    list_any (are_alike text) (take n texts) ≡ true → repeat_index are_alike texts ≡ Some n
repeat-at texts n text rest none at left seen = grind (arith, common_steps, repeat-found are_alike texts n text rest, repeat-so_far texts n)

pub HasNoRepeatBefore-more :
    (texts : List (List ℕ)) (n : ℕ) → HasNoRepeatBefore n texts → list_any (are_alike (get_or texts n [])) (take n texts) ≡ false → HasNoRepeatBefore (n + 1) texts
HasNoRepeatBefore-more texts n none new i below = grind (arith, common_steps, cases_lt i n)

-- ---- their numbers

-- one more
pub numbers-more :
    (texts : List (List ℕ)) (n : ℕ) (text : List ℕ) (rest : List (List ℕ)) → IsAt texts n text rest →
    map folded_number (take (n + 1) texts) ≡ map folded_number (take n texts) ++ folded_number text ∷ []
numbers-more texts n text rest at = grind (arith, common_steps, take_more texts n text at.below, map_push folded_number (take n texts) (get_or texts n text))

-- the number of a variant tells it from others but for case
variant_tells : (a b : List ℕ) → is_variant a ≡ true → is_variant b ≡ true → (folded_number b == folded_number a) ≡ are_alike a b
variant_tells a b av bv = folded_number-tells a b (of_variant a av).alphanumeric (of_variant b bv).alphanumeric

pub among-earlier :
    (texts : List (List ℕ)) (n : ℕ) (text : List ℕ) → list_all is_variant texts ≡ true → IsTrue (is_variant text) →
    list_any (λ other. other == folded_number text) (map folded_number (take n texts)) ≡ list_any (are_alike text) (take n texts)
among-earlier texts n text all variant = grind (arith, common_steps, among-numbers folded_number is_variant variant_tells text (take n texts) variant, list_all-append, take-append-drop n texts, and_parts)

-- the number of each text of a block is in it
pub HoldsFrom-in :
    (texts : List (List ℕ)) (start n : ℕ) (text : List ℕ) (rest : List (List ℕ)) (block : List ℕ) → HoldsFrom start texts block → IsAt texts n text rest →
    start ≤ n → n < start + length block → list_any (λ other. other == folded_number text) block ≡ true
HoldsFrom-in texts start n text rest block holds at after inside =
    let part = take (length block) (drop start texts) in
    let below = at.below in
    let member = at.member in
    let long = length-take (length block) (drop start texts) in
    let late = length-drop start texts in
    let here : start + (n - start) ≡ n = omega (arith, after) in
    let taken = get_or-take (length block) (drop start texts) (n - start) text (omega (arith, after, inside)) in
    let dropped = get_or-drop start texts (n - start) text in
    let same : get_or (map folded_number part) (n - start) 0 ≡ folded_number text =
    get_or-map folded_number part (n - start) text 0 (omega (arith, long, late, below, after, inside)) ∙ ap folded_number (cc (taken, dropped, here, member)) in
    sym (list_any-IsPermutation (λ other. other == folded_number text) (map folded_number part) block holds)
    ∙ list_any_at (λ other. other == folded_number text) (map folded_number part) (n - start) 0 (grind (arith, common_steps)) (eq-eqb _ _ same)

-- a text that was not met again is alike none before it
pub new-here :
    (texts : List (List ℕ)) (start n : ℕ) (text : List ℕ) (rest : List (List ℕ)) (block : List ℕ) → list_all is_variant texts ≡ true → IsTrue (is_variant text) →
    HasNoRepeatBefore start texts → HoldsFrom start texts block → IsAt texts n text rest → n < start + length block →
    false ≡ (list_any (λ other. other == folded_number text) block && list_any (λ other. other == folded_number text) (map folded_number (take n texts))) →
    list_any (are_alike (get_or texts n [])) (take n texts) ≡ false
new-here texts start n text rest block all variant new holds at inside again =
    let below = at.below in
    let member = get_or_default texts n [] text below ∙ sym at.member in
    grind (arith, common_steps, cases_lt n start, new n, among-earlier texts n text all variant, HoldsFrom-in texts start n text rest block holds at)

-- a text that was met again is alike one before it
pub met-again :
    (texts : List (List ℕ)) (n : ℕ) (text : List ℕ) (block : List ℕ) → list_all is_variant texts ≡ true → IsTrue (is_variant text) →
    true ≡ (list_any (λ other. other == folded_number text) block && list_any (λ other. other == folded_number text) (map folded_number (take n texts))) →
    list_any (are_alike text) (take n texts) ≡ true
met-again texts n text block all variant again = grind (arith, common_steps, among-earlier texts n text all variant, and_parts)
