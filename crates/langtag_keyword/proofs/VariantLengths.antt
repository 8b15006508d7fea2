-- Variants of which no two are equal take as many bytes when each is written once.
use Rattle.langtag_keyword.proofs.Common.{each_subtag, each_from_test, ◌≡◌, ℕ, ◌+◌, ◌<◌, ◌≤◌, true, false, cond, ◌==◌, List, [], ◌∷◌, length, fold, refl, sym, ap, ◌∙◌, arith, AllByRecursion, list_all, list_any, and_parts, length-slice_split, nat_tests, with_joined, with_subtag, fold_text-twice, length-fold, IsSubtag, of_variant, are_alike, fold_text, are_alike-decides, is_variant, is_hyphen, join, segments, are_different_variants, in_alphabet, put_among, length_with_hyphens}
use Rattle.langtag_scan.proofs.Prelude.{min, join_with_byte-slice_split}
use Rattle.langtag_text.proofs.WithSubtag.{with_subtag-none}
use Rattle.langtag_keyword.proofs.AlphabetLaws.{Rise, before-tie, rise-in_alphabet, AreLower, lower-in_alphabet, among, among-alphabet, before-apart, not-among}
use Rattle.langtag_keyword.proofs.LeastTexts.{HasNumber, each-number}
use Rattle.langtag_keyword.proofs.SubtagTexts.{length-more}

-- ---- the length of a text

in_order-length : (ss : List (List ℕ)) → 0 < length ss → AllByRecursion HasNumber ss → length (fold with_subtag [] ss) + 1 ≡ length_with_hyphens ss
in_order-length [] some all = absurd (omega (arith, some))
in_order-length (s ∷ ss) some all = grind (arith, nat_tests, with_joined [] s ss all.0.some, with_subtag-none [] (join (s ∷ ss)), length-more s ss)

pub put-some : (x : List ℕ) (ss : List (List ℕ)) → 0 < length (put_among x ss)
put-some x [] = omega arith
put-some x (s ∷ ss) = grind (arith, nat_tests)

-- ---- one text more

put-length :
    (x : List ℕ) (ss : List (List ℕ)) → fold_text x ≡ x → AreLower ss → Rise ss →
    length_with_hyphens (put_among x ss) ≡ cond (among x ss) (length_with_hyphens ss) (length x + 1 + length_with_hyphens ss)
put-length x [] low lowers rise = refl
put-length x (s ∷ ss) low lowers rise =
    grind (arith, nat_tests, put-length x ss low lowers.1 rise.1, before-apart s x lowers.0 low, before-tie x s, are_alike-decides s x, not-among x x (s ∷ ss) refl low lowers, rise)

-- ---- among texts

pub among-alike : (s : List ℕ) (ss : List (List ℕ)) → among (fold_text s) ss ≡ list_any (are_alike s) ss
among-alike s [] = refl
among-alike s (t ∷ ts) = grind (arith, nat_tests, among-alike s ts, are_alike-decides t (fold_text s), are_alike-decides s t, fold_text-twice s)

-- what the order leaves out
record Weighs (ss : List (List ℕ)) : Type 0 where
  pub less : length_with_hyphens (in_alphabet ss) ≤ length_with_hyphens ss
  pub tells : (length_with_hyphens (in_alphabet ss) == length_with_hyphens ss) ≡ are_different_variants ss

weighs : (ss : List (List ℕ)) → list_all is_variant ss ≡ true → Weighs ss
weighs [] all = record { less = omega arith; tells = refl }
weighs (s ∷ ss) all =
    let parts = and_parts (is_variant s) (list_all is_variant ss) all in
    let rest = weighs ss parts.1 in
    let put = put-length (fold_text s) (in_alphabet ss) (fold_text-twice s) (lower-in_alphabet ss) (rise-in_alphabet ss) in
    let there = among-alphabet (fold_text s) ss ∙ among-alike s ss in
    record {
      less = grind (arith, nat_tests, put, there, length-fold s, rest.less);
      tells = grind (arith, nat_tests, put, there, length-fold s, rest.less, rest.tells, parts.0);
    }

pub are_subtags : (ss : List (List ℕ)) → list_all is_variant ss ≡ true → AllByRecursion IsSubtag ss
are_subtags ss all = each_subtag is_variant of_variant ss (each_from_test is_variant ss all)

pub not_variants : (ss : List (List ℕ)) → list_all is_variant ss ≡ false → are_different_variants ss ≡ false
not_variants [] other = absurd cc
not_variants (s ∷ ss) other = grind (arith, nat_tests, not_variants ss)

different_by :
    (ss : List (List ℕ)) (text : List ℕ) (n : ℕ) → list_all is_variant ss ≡ true → segments text ≡ ss → length text < 18446744073709551616 →
    n ≡ min (length (fold with_subtag [] (in_alphabet ss))) 18446744073709551615 → (n == length text) ≡ are_different_variants ss
different_by [] text n all is fits counted = absurd (omega (arith, ap length is, length-slice_split is_hyphen text))
different_by (s ∷ ss) text n all is fits counted =
    let weighed = weighs (s ∷ ss) all in
    let written = in_order-length (in_alphabet (s ∷ ss)) (put-some (fold_text s) (in_alphabet ss)) (each-number (s ∷ ss) (are_subtags (s ∷ ss) all)) in
    let whole : length (join (s ∷ ss)) ≡ length text = ap (λ xs. length (join xs)) (sym is) ∙ ap length (join_with_byte-slice_split 45 text) in
    let counts : n + 1 ≡ length_with_hyphens (in_alphabet (s ∷ ss)) = omega (arith, written, whole, length-more s ss, weighed.less, counted, fits) in
    let size : length text + 1 ≡ length_with_hyphens (s ∷ ss) = omega (arith, whole, length-more s ss) in
    grind (arith, nat_tests, counts, size, weighed.tells)

-- no two are equal if their text, each once, is as long as the text of all
pub different_length :
    (text : List ℕ) (n : ℕ) → list_all is_variant (segments text) ≡ true → length text < 18446744073709551616 →
    n ≡ min (length (fold with_subtag [] (in_alphabet (segments text)))) 18446744073709551615 → (n == length text) ≡ are_different_variants (segments text)
different_length text n all fits counted = different_by (segments text) text n all refl fits counted
