-- The keywords of a range that are put among the subtags of `u`: their keys as numbers, and when nothing is put.
use Rattle.langtag_keyword.proofs.Common.{common_steps, flat_map, ◌≡◌, ℕ, ◌+◌, ◌<◌, ◌≤◌, ◌^◌, true, false, List, [], ◌∷◌, ◌++◌, length, map, filter, refl, sym, ap, ◌∙◌, arith, nat_tests, append_assoc, map-append, length-append, AllByRecursion, list_any, is_some, IsSubtag, fold_text, in_alphabet, is_key, key_of, keyword_form, put_among, unicode_value, value_of, each-map, before_key, get_or, take, take_all, take_more}
use Rattle.langtag_text.specs.Output.{with_subtag}
use Rattle.langtag_scan.specs.Grammar.{to_ascii_uppercase}
use Rattle.langtag_text.specs.RecommendedCase.{capital_text}
use Rattle.langtag_keyword.specs.Form.{keys_in_order}
use Rattle.langtag_keyword.specs.Least.{AscendsFrom, is_within, left_number}
use Rattle.langtag_keyword.proofs.AlphabetLaws.{each-put}
use Rattle.langtag_keyword.proofs.KeywordsInForm.{each-has}
use Rattle.langtag_keyword.proofs.LeastLaws.{above, above-none, above-split}
use Rattle.langtag_keyword.proofs.LeastTexts.{AreKeys, numbers, order_below, put-keys_in_order}
use Rattle.langtag_locale.specs.Resolved.{Wish, from_greater, is_greater_key, resolved_subtags, remaining_subtags, with_keywords}

-- ---- keys as numbers

flat-each : {X : Type 0} (f : X → List ℕ) (xs : List X) → flat_map (λ x. f x ∷ []) xs ≡ map f xs
flat-each f [] = refl
flat-each f (x ∷ xs) = ap (λ t. f x ∷ t) (flat-each f xs)

flat-same : (xs : List (List ℕ)) → flat_map (λ x. x ∷ []) xs ≡ xs
flat-same [] = refl
flat-same (x ∷ xs) = ap (λ t. x ∷ t) (flat-same xs)

-- the numbers of keys name the keys
pub keys_named : (ss : List (List ℕ)) → AreKeys ss → map key_of (numbers (in_alphabet ss)) ≡ in_alphabet ss
keys_named ss are = sym (flat-each key_of (numbers (in_alphabet ss))) ∙ put-keys_in_order (λ k. k ∷ []) ss are ∙ flat-same (in_alphabet ss)

abbrev pub nothing : ℕ → List (List ℕ)
nothing n = []

-- nothing is put for numbers for which nothing is put
pub flat-nothing : (ns : List ℕ) → flat_map nothing ns ≡ []
flat-nothing [] = refl
flat-nothing (n ∷ ns) = flat-nothing ns

-- the keys that are kept, and those above them
pub kept-split :
    (kept ns : List ℕ) (last limit next : ℕ) → kept ≡ filter (is_within last limit) ns → next ≡ limit → last ≤ limit → AscendsFrom 0 ns →
    map key_of kept ++ map key_of (above next ns) ≡ map key_of (above last ns)
kept-split kept ns last limit next is same order rise =
    ap (λ ks. map key_of ks ++ map key_of (above next ns)) is ∙ ap (λ n. map key_of (filter (is_within last limit) ns) ++ map key_of (above n ns)) same
    ∙ sym (map-append key_of (filter (is_within last limit) ns) (above limit ns)) ∙ ap (map key_of) (sym (above-split last limit 0 ns order rise))

each-below : (ss : List (List ℕ)) → AllByRecursion IsSubtag ss → AllByRecursion (λ s. left_number 8 s < 2 ^ 64) (in_alphabet ss)
each-below [] all = tt
each-below (s ∷ ss) all = each-put (λ s. left_number 8 s < 2 ^ 64) (fold_text s) (in_alphabet ss) (order_below s all.0) (each-below ss all.1)

-- no number is above the greatest
pub above-greatest : (last : ℕ) (ss : List (List ℕ)) → AllByRecursion IsSubtag ss → 18446744073709551615 ≤ last → above last (numbers (in_alphabet ss)) ≡ []
above-greatest last ss all most =
    above-none last (numbers (in_alphabet ss)) (each-map (λ s. left_number 8 s < 2 ^ 64) (λ n. n ≤ last) (left_number 8) (λ s below. omega (arith, below, most)) (in_alphabet ss) (each-below ss all))

-- ---- when a `u` has no subtags

some-put : (s : List ℕ) (ss : List (List ℕ)) → 1 ≤ length (put_among s ss)
some-put s [] = omega arith
some-put s (t ∷ ss) = grind (arith, nat_tests)

some-keys : (ss : List (List ℕ)) → list_any is_key ss ≡ true → 1 ≤ length (keys_in_order is_key ss)
some-keys [] any = absurd cc
some-keys (s ∷ ss) any = grind (arith, nat_tests, some-put, some-keys ss)

no-keys : (ss : List (List ℕ)) → list_any is_key ss ≡ false → keys_in_order is_key ss ≡ []
no-keys [] none = refl
no-keys (s ∷ ss) none = grind (arith, nat_tests, no-keys ss)

some-keyword : (ss : List (List ℕ)) (key : List ℕ) → is_some (value_of is_key key ss) ≡ true → 1 ≤ length (keyword_form is_key unicode_value ss key)
some-keyword ss key some = grind (arith, common_steps)

-- the keywords of some keys are some subtags
some-with : (w : Wish) (keys others : List (List ℕ)) → AllByRecursion (λ k. is_some (value_of is_key k w.unicode) ≡ true) keys → 1 ≤ length keys → 1 ≤ length (with_keywords (keyword_form is_key unicode_value w.unicode) keys others)
some-with w [] others have some = absurd (omega (arith, some))
some-with w (key ∷ keys) others have some =
    omega (
      arith,
      some-keyword w.unicode key have.0,
      length-append (before_key (is_greater_key key) others) (keyword_form is_key unicode_value w.unicode key ++ with_keywords (keyword_form is_key unicode_value w.unicode) keys (from_greater key others)),
      length-append (keyword_form is_key unicode_value w.unicode key) (with_keywords (keyword_form is_key unicode_value w.unicode) keys (from_greater key others)),
    )

pub resolved-none : (w : Wish) (ss : List (List ℕ)) → list_any is_key w.unicode ≡ false → resolved_subtags w ss ≡ remaining_subtags w false ss
resolved-none w ss none = ap (λ keys. with_keywords (keyword_form is_key unicode_value w.unicode) keys (remaining_subtags w false ss)) (no-keys w.unicode none)

pub resolved-some : (w : Wish) (ss : List (List ℕ)) → list_any is_key w.unicode ≡ true → 1 ≤ length (resolved_subtags w ss)
resolved-some w ss any = some-with w (keys_in_order is_key w.unicode) (remaining_subtags w false ss) (each-has is_key w.unicode) (some-keys w.unicode any)

-- ---- uppercase

-- bytes in uppercase, after a hyphen
pub capital-put :
    (text sub : List ℕ) (k r : ℕ) → k < length sub → r ≡ to_ascii_uppercase (get_or sub k 0) → (text ++ capital_text (take k sub)) ++ r ∷ [] ≡ text ++ capital_text (take (k + 1) sub)
capital-put text sub k r inside is = grind (arith, common_steps, take_more, append_assoc, map-append)

pub capitals-put : (text sub : List ℕ) (k : ℕ) → length sub ≤ k → with_subtag text [] ++ capital_text (take k sub) ≡ with_subtag text (capital_text sub)
unfolding with_subtag
capitals-put text sub k all = grind (arith, nat_tests, take_all k sub all, append_assoc)
