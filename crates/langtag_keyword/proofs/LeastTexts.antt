-- The numbers of subtags are in the order of the alphabet, and tell the subtags.
use Rattle.langtag_scan.proofs.CaseLaw.{all-fold, is_letter-fold, is_digit-fold}
use Rattle.langtag_keyword.proofs.Common.{is_alphanumeric, each-weaker, ◌≡◌, ℕ, zero, suc, ◌+◌, ◌*◌, ◌<◌, ◌≤◌, ◌-◌, Bool, true, false, not, cond, ◌==◌, ◌&&◌, ◌||◌, List, [], ◌∷◌, ◌++◌, length, get_or, drop, map, append_assoc, append-nil, refl, sym, ap, subst, ◌∙◌, arith, flat_map-append, AllByRecursion, filter, flat_map, list_any, false≢true, nat_tests, at_drop_more, pushes_both, pushes_ended, pushes_same, Output, Pushes, length-fold, IsSubtag, fold_text, in_alphabet, is_before, IsOffered, Least, key_of, number_text, order_number, each-map}
use Rattle.langtag_scan.proofs.Prelude.{◌%◌, ◌^◌, ltb-false, ltb-true, ltb, All, All-from_recursion, common_steps}
use Rattle.langtag_scan.specs.Grammar.{folded_number}
use Rattle.std.proofs.Math.Nat.{mod-eq_of_lt, pow-suc}
use Rattle.std.specs.Int.{bytes_high_first}
use Rattle.std.proofs.lemmas.List.Elements.{All-filter}
use Rattle.std.proofs.lemmas.Nat.{div-mul-add, mul-add-lt}
use Rattle.langtag_text.specs.Output.{with_subtag}
use Rattle.langtag_keyword.specs.Least.{HoldsLeast, AscendsFrom, has, is_within, left_number}
use Rattle.langtag_keyword.proofs.AlphabetLaws.{Rise, Under, rise-in_alphabet, any-put, each-put}
use Rattle.langtag_keyword.proofs.LeastLaws.{above, above-all, above-none, above-split}
use Rattle.langtag_scan.proofs.FoldedNumbers.{IsByte, fold_digits}

-- ---- bytes

abbrev pub AreBytes : List ℕ → Type 0
AreBytes s = AllByRecursion IsByte s

-- a text that has a number
pub record HasNumber (s : List ℕ) : Type 0 where
  pub some : 1 ≤ length s
  pub short : length s ≤ 8
  pub bytes : AreBytes s

pub has_number : (s : List ℕ) → IsSubtag s → HasNumber (fold_text s)
has_number s is = record { some = omega (arith, length-fold s, is.some); short = omega (arith, length-fold s, is.short); bytes = fold_digits s is.alphanumeric }

-- ---- their number

left-nil : (k : ℕ) → left_number k [] ≡ 0
left-nil k = grind (arith, nat_tests)

power-some : (k : ℕ) → 0 < 256 ^ k
power-some zero = omega arith
power-some (suc k) = omega (arith, power-some k, pow-suc 256 k)

left-below : (k : ℕ) (s : List ℕ) → AreBytes s → left_number k s < 256 ^ k
left-below zero s bytes = power-some zero
left-below (suc k) [] bytes = power-some (suc k)
left-below (suc k) (b ∷ s) bytes = omega (arith, mul-add-lt b (256 ^ k) (left_number k s) 256 bytes.0.most (left-below k s bytes.1), pow-suc 256 k)

left-some : (k b : ℕ) (s : List ℕ) → 0 < b → 0 < left_number (suc k) (b ∷ s)
left-some k b s some = grind (arith, nat_tests, power-some k)

-- numbers are in the order of the texts
pub left-before : (k : ℕ) (a b : List ℕ) → length a ≤ k → length b ≤ k → AreBytes a → AreBytes b → is_before a b ≡ true → left_number k a < left_number k b
left-before k [] [] la lb ab bb before = absurd (false≢true before)
left-before zero [] (y ∷ b) la lb ab bb before = absurd (omega (arith, lb))
left-before (suc k) [] (y ∷ b) la lb ab bb before = left-some k y b bb.0.some
left-before k (x ∷ a) [] la lb ab bb before = absurd (false≢true before)
left-before zero (x ∷ a) (y ∷ b) la lb ab bb before = absurd (omega (arith, lb))
left-before (suc k) (x ∷ a) (y ∷ b) la lb ab bb before =
    grind (arith, nat_tests, left-before k a b (omega (arith, la)) (omega (arith, lb)) ab.1 bb.1, mul-add-lt x (256 ^ k) (left_number k a) y, left-below k a ab.1)

-- ---- the text of a number

-- one digit
digit :
    (k h r n d : ℕ) (s : List ℕ) → n ≡ h * 256 ^ k + r → r < 256 ^ k → h % 256 ≡ d →
    filter (λ b. not (b == 0)) (bytes_high_first k n) ≡ s →
    filter (λ b. not (b == 0)) (bytes_high_first (suc k) n) ≡ cond (not (d == 0)) (d ∷ s) s
digit k h r n d s is below low rest = grind (arith, common_steps, div-mul-add)

some-kept : (b : ℕ) (s : List ℕ) → 0 < b → cond (not (b == 0)) (b ∷ s) s ≡ b ∷ s
some-kept b s some = let test : (b == 0) ≡ false = grind (arith, nat_tests) in ap (λ c. cond (not c) (b ∷ s) s) test

wider : (k q b r : ℕ) → q * 256 ^ suc k + (b * 256 ^ k + r) ≡ (q * 256 + b) * 256 ^ k + r
wider k q b r = rw (pow-suc 256 k) (omega arith)

-- what is above the digits does not matter
digits_of :
    (k q : ℕ) (s : List ℕ) → length s ≤ k → AreBytes s → filter (λ b. not (b == 0)) (bytes_high_first k (q * 256 ^ k + left_number k s)) ≡ s
digits_of zero q [] short bytes = refl
digits_of zero q (b ∷ s) short bytes = absurd (omega (arith, short))
digits_of (suc k) q [] short bytes =
    let is : q * 256 ^ suc k + 0 ≡ (q * 256) * 256 ^ k + 0 = omega (arith, wider k q 0 0) in
    digit k (q * 256) 0 (q * 256 ^ suc k + 0) 0 [] is (power-some k) (omega arith)
    (ap (λ n. filter (λ b. not (b == 0)) (bytes_high_first k n)) (is ∙ ap (λ r. (q * 256) * 256 ^ k + r) (sym (left-nil k))) ∙ digits_of k (q * 256) [] (omega arith) tt)
digits_of (suc k) q (b ∷ s) short bytes =
    digit k (q * 256 + b) (left_number k s) _ b s (wider k q b (left_number k s)) (left-below k s bytes.1) (omega (arith, bytes.0.most))
    (ap (λ n. filter (λ b. not (b == 0)) (bytes_high_first k n)) (wider k q b (left_number k s)) ∙ digits_of k (q * 256 + b) s (omega (arith, short)) bytes.1)
    ∙ some-kept b s bytes.0.some

digits_at : (k : ℕ) (s : List ℕ) → length s ≤ k → AreBytes s → filter (λ b. not (b == 0)) (bytes_high_first k (left_number k s)) ≡ s
digits_at k s short bytes = grind (arith, nat_tests, bytes_high_first k, digits_of k 0 s short bytes)

pub text_of_number : (s : List ℕ) → HasNumber s → number_text (left_number 8 s) ≡ s
text_of_number s number = digits_at 8 s number.short number.bytes

-- ---- folded numbers

pub shifted : (s : List ℕ) → 1 ≤ length s → length s ≤ 8 → folded_number s * 2 ^ (64 - 8 * length s) ≡ order_number s
unfolding folded_number
shifted [] some short = absurd (omega (arith, some))
shifted (a ∷ []) some short = omega arith
shifted (a ∷ b ∷ []) some short = omega arith
shifted (a ∷ b ∷ c ∷ []) some short = omega arith
shifted (a ∷ b ∷ c ∷ d ∷ []) some short = omega arith
shifted (a ∷ b ∷ c ∷ d ∷ e ∷ []) some short = omega arith
shifted (a ∷ b ∷ c ∷ d ∷ e ∷ f ∷ []) some short = omega arith
shifted (a ∷ b ∷ c ∷ d ∷ e ∷ f ∷ g ∷ []) some short = omega arith
shifted (a ∷ b ∷ c ∷ d ∷ e ∷ f ∷ g ∷ h ∷ []) some short = omega arith
shifted (a ∷ b ∷ c ∷ d ∷ e ∷ f ∷ g ∷ h ∷ x ∷ s) some short = absurd (omega (arith, short))

pub order_below : (s : List ℕ) → IsSubtag s → order_number s < 2 ^ 64
order_below s is = left-below 8 (fold_text s) (has_number s is).bytes

-- a number that is shifted loses nothing
pub shifted_number : (s : List ℕ) (n k r : ℕ) → IsSubtag s → n ≡ folded_number s → k ≡ 64 - 8 * length s → r ≡ n * 2 ^ k % 2 ^ 64 → r ≡ order_number s
shifted_number s n k r is number shift result = grind (arith, nat_tests, shifted s is.some is.short, mod-eq_of_lt (order_below s is), order_below s is)

-- ---- texts in order

pub each-number : (ss : List (List ℕ)) → AllByRecursion IsSubtag ss → AllByRecursion HasNumber (in_alphabet ss)
each-number [] all = tt
each-number (s ∷ ss) all = each-put HasNumber (fold_text s) (in_alphabet ss) (has_number s all.0) (each-number ss all.1)

-- the numbers of texts in lowercase
abbrev pub numbers : List (List ℕ) → List ℕ
numbers ss = map (left_number 8) ss

rises-after :
    (s : List ℕ) (ss : List (List ℕ)) → HasNumber s → AllByRecursion HasNumber ss → Under s ss → Rise ss → AscendsFrom (left_number 8 s) (numbers ss)
rises-after s [] one all under rise = tt
rises-after s (t ∷ ts) one all under rise =
    (left-before 8 s t one.short all.0.short one.bytes all.0.bytes under, rises-after t ts all.0 all.1 rise.0 rise.1)

rise-numbers : (ss : List (List ℕ)) → AllByRecursion HasNumber ss → Rise ss → AscendsFrom 0 (numbers ss)
rise-numbers [] all rise = tt
rise-numbers (s ∷ ss) all rise = (grind (arith, nat_tests, left-some 7, all.0), rises-after s ss all.0 all.1 rise.0 rise.1)

pub rise-in_order : (ss : List (List ℕ)) → AllByRecursion IsSubtag ss → AscendsFrom 0 (numbers (in_alphabet ss))
rise-in_order ss all = rise-numbers (in_alphabet ss) (each-number ss all) (rise-in_alphabet ss)

has-numbers : (n : ℕ) (ss : List (List ℕ)) → has n (numbers ss) ≡ list_any (λ s. left_number 8 s == n) ss
has-numbers n [] = refl
has-numbers n (s ∷ ss) = ap (λ b. (left_number 8 s == n) || b) (has-numbers n ss)

-- their order changes nothing of which numbers they have
has-in_order : (n : ℕ) (ss : List (List ℕ)) → has n (map order_number ss) ≡ has n (numbers (in_alphabet ss))
has-in_order n [] = refl
has-in_order n (s ∷ ss) = grind (arith, nat_tests, has-numbers n (in_alphabet ss), has-numbers n (in_alphabet (s ∷ ss)), any-put, has-in_order n ss)

-- ---- what is put for numbers

-- for one more
pub put_more :
    (put : ℕ → List (List ℕ)) (ns : List ℕ) (k : ℕ) (out middle new : Output) → k < length ns → Pushes (put (get_or ns k 0)) out middle →
    Pushes (flat_map put (drop (k + 1) ns)) middle new → Pushes (flat_map put (drop k ns)) out new
put_more put ns k out middle new inside these those =
    pushes_same _ _ out new (sym (at_drop_more (flat_map put) ns k 0 inside)) (pushes_both (put (get_or ns k 0)) (flat_map put (drop (k + 1) ns)) out middle new these those)

-- for the numbers of texts: the texts
pub put-texts : (ss : List (List ℕ)) → AllByRecursion HasNumber ss → flat_map (λ n. number_text n ∷ []) (numbers ss) ≡ ss
put-texts [] all = refl
put-texts (s ∷ ss) all = ap (λ t. t ∷ flat_map (λ n. number_text n ∷ []) (numbers ss)) (text_of_number s all.0) ∙ ap (λ ts. s ∷ ts) (put-texts ss all.1)

folded_fits : (s : List ℕ) → IsSubtag s → IsSubtag (fold_text s)
folded_fits s is = record {
  some = omega (arith, length-fold s, is.some);
  short = omega (arith, length-fold s, is.short);
  alphanumeric = all-fold is_alphanumeric (λ b. rw (is_letter-fold b, is_digit-fold b) refl) s ∙ is.alphanumeric;
}

-- for the numbers of keys: what is put for the keys
abbrev IsKey : List ℕ → Type 0
IsKey s = HasNumber s × IsSubtag s × (length s ≡ 2)

-- subtags of two characters
abbrev pub AreKeys : List (List ℕ) → Type 0
AreKeys ss = AllByRecursion (λ s. IsSubtag s × (length s ≡ 2)) ss

key-back : (s : List ℕ) → IsKey s → key_of (left_number 8 s) ≡ s
key-back s is = grind (arith, nat_tests, is.2)

put-keys : (f : List ℕ → List (List ℕ)) (ss : List (List ℕ)) → AllByRecursion IsKey ss → flat_map (λ n. f (key_of n)) (numbers ss) ≡ flat_map f ss
put-keys f [] all = refl
put-keys f (s ∷ ss) all = ap (λ t. f t ++ flat_map (λ n. f (key_of n)) (numbers ss)) (key-back s all.0) ∙ ap (λ ts. f s ++ ts) (put-keys f ss all.1)

each-key : (ss : List (List ℕ)) → AreKeys ss → AllByRecursion IsKey (in_alphabet ss)
each-key [] all = tt
each-key (s ∷ ss) all = each-put IsKey (fold_text s) (in_alphabet ss) (has_number s all.0.0, folded_fits s all.0.0, length-fold s ∙ all.0.1) (each-key ss all.1)

pub keys-fit : (ss : List (List ℕ)) → AreKeys ss → AllByRecursion IsSubtag ss
keys-fit = each-weaker (λ s. IsSubtag s × (length s ≡ 2)) IsSubtag (λ s is. is.0)

pub put-keys_in_order :
    (f : List ℕ → List (List ℕ)) (ss : List (List ℕ)) → AreKeys ss →
    flat_map (λ n. f (key_of n)) (numbers (in_alphabet ss)) ≡ flat_map f (in_alphabet ss)
put-keys_in_order f ss all = put-keys f (in_alphabet ss) (each-key ss all)

-- the number of a subtag of two characters
abbrev pub NamesKey : ℕ → Type 0
NamesKey n = IsSubtag (key_of n)

pub named-in_order : (test : ℕ → Bool) (ss : List (List ℕ)) → AreKeys ss → All NamesKey (filter test (numbers (in_alphabet ss)))
named-in_order test ss all =
    let ns = numbers (in_alphabet ss) in
    All-filter test NamesKey ns (All-from_recursion NamesKey ns (each-map IsKey NamesKey (left_number 8) (λ s is. subst IsSubtag (sym (key-back s is)) is.1) (in_alphabet ss) (each-key ss all)))

-- ---- what is put for the numbers of subtags in order, some of them at a time

-- what is put for the numbers above `last` comes after what was put before, and then all is put
pub record Rounds (put : ℕ → List (List ℕ)) (ss : List (List ℕ)) (least : Least) (more : Bool) (start out : Output) : Type 0 where
  pub fits : AllByRecursion IsSubtag ss
  pub empty : more ≡ true → HoldsLeast least []
  pub ended : more ≡ ltb least.last 18446744073709551615
  pub so_far : (new : Output) → Pushes (flat_map put (above least.last (numbers (in_alphabet ss)))) out new → Pushes (flat_map put (numbers (in_alphabet ss))) start new

pub rounds-first :
    (put : ℕ → List (List ℕ)) (ss : List (List ℕ)) (least : Least) (out : Output) → AllByRecursion IsSubtag ss → HoldsLeast least [] → least.last ≡ 0 → Rounds put ss least true out out
rounds-first put ss least out fits empty none =
    let ns = numbers (in_alphabet ss) in
    record {
      fits = fits;
      empty = λ more. empty;
      ended = sym (ap (λ n. ltb n 18446744073709551615) none);
      so_far = λ new these. pushes_same _ _ out new (ap (λ n. flat_map put (above n ns)) none ∙ ap (flat_map put) (above-all 0 0 ns (omega arith) (rise-in_order ss fits))) these;
    }

module _ {put : ℕ → List (List ℕ)} {ss : List (List ℕ)} {least : Least} {more : Bool} {start out : Output} (rounds : Rounds put ss least more start out) where
  -- no number is left
  pub rounds-ended : more ≡ false → Pushes (flat_map put (numbers (in_alphabet ss))) start out
  rounds-ended no_more =
      let most : 18446744073709551615 ≤ least.last = ltb-false least.last 18446744073709551615 (sym rounds.ended ∙ no_more) in
      let all = each-map HasNumber (λ n. n ≤ least.last) (left_number 8) (λ s number. omega (arith, left-below 8 s number.bytes, most)) (in_alphabet ss) (each-number ss rounds.fits) in
      rounds.so_far out (pushes_ended _ out (ap (flat_map put) (above-none least.last (numbers (in_alphabet ss)) all)))

  rounds-hold : (offered : Least) → more ≡ true → IsOffered (map order_number ss) least offered → HoldsLeast offered (numbers (in_alphabet ss))
  rounds-hold offered is_more these =
      let all = these.holds [] (rounds.empty is_more) in
      record { order = all.order; same = λ n. all.same n ∙ ap (λ b. is_within offered.last offered.limit n && b) (has-in_order n ss) }

  -- what is kept are the numbers within the limits
  pub rounds-kept :
      (offered sorted : Least) → more ≡ true → IsOffered (map order_number ss) least offered →
      ((all : List ℕ) → AscendsFrom 0 all → HoldsLeast offered all → sorted.kept ≡ filter (is_within offered.last offered.limit) all) →
      sorted.kept ≡ filter (is_within offered.last offered.limit) (numbers (in_alphabet ss))
  rounds-kept offered sorted is_more these kept = kept (numbers (in_alphabet ss)) (rise-in_order ss rounds.fits) (rounds-hold offered is_more these)

  module _
      {offered : Least} (sorted new : Least) (is_more : more ≡ true) (these : IsOffered (map order_number ss) least offered)
      (kept : (all : List ℕ) → AscendsFrom 0 all → HoldsLeast offered all → sorted.kept ≡ filter (is_within offered.last offered.limit) all)
      (limit : sorted.limit ≡ offered.limit) (next : new.last ≡ sorted.limit)
    where
      pub rounds-smaller : 18446744073709551615 - new.last < 18446744073709551615 - least.last
      rounds-smaller = omega (arith, ltb-true least.last 18446744073709551615 (sym rounds.ended ∙ is_more), (rounds-hold offered is_more these).order, limit, next, these.last)

      -- all subtags are offered, and what is put for those that are kept is put
      pub rounds-next :
          (next_more : Bool) (pushed : List ℕ) (after : Output) → (next_more ≡ true → HoldsLeast new []) → next_more ≡ ltb sorted.limit 18446744073709551615 →
          pushed ≡ sorted.kept → Pushes (flat_map put pushed) out after → Rounds put ss new next_more start after
      rounds-next next_more pushed after empty ended is puts =
          let ns = numbers (in_alphabet ss) in
          let rise = rise-in_order ss rounds.fits in
          let holds = rounds-hold offered is_more these in
          let last : least.last ≤ offered.limit = omega (arith, holds.order, these.last) in
          let split : flat_map put pushed ++ flat_map put (above new.last ns) ≡ flat_map put (above least.last ns) =
          grind (arith, common_steps, is, kept ns rise holds, these.last, next, limit, flat_map-append put (filter (is_within least.last offered.limit) ns), above-split least.last offered.limit 0 ns last rise) in
          record {
            fits = rounds.fits;
            empty = empty;
            ended = ended ∙ ap (λ n. ltb n 18446744073709551615) (sym next);
            so_far = λ end those. rounds.so_far end (pushes_same _ _ out end split (pushes_both (flat_map put pushed) (flat_map put (above new.last ns)) out after end puts those));
          }

-- ---- digits that are put

pub after-hyphen : (text s : List ℕ) → with_subtag text [] ++ s ≡ with_subtag text s
unfolding with_subtag
after-hyphen text s = grind (arith, nat_tests, append_assoc)

-- ---- numbers that are offered

pub offered-none : (least : Least) → IsOffered [] least least
offered-none least = record { last = refl; holds = λ offered holds. subst (HoldsLeast least) (sym (append-nil offered)) holds }

pub offered-both : (ms ns : List ℕ) (old middle new : Least) → IsOffered ms old middle → IsOffered ns middle new → IsOffered (ms ++ ns) old new
offered-both ms ns old middle new these those = record {
  last = those.last ∙ these.last;
  holds = λ offered holds. subst (HoldsLeast new) (append_assoc offered ms ns) (those.holds (offered ++ ms) (these.holds offered holds));
}
