-- The irregular texts, and which of them a text may still become; no text is of two kinds of tags, and each grandfathered text is a tag.
use Rattle.langtag_scan.proofs.Prelude.{◌≡◌, ◌↔◌, ℕ, ◌<◌, Bool, true, eqb, ◌&&◌, List, [], ◌∷◌, ◌++◌, length, get_or, take, drop, IsTrue, list_any, list_any_at, Any-from_list_any, slice_get_read, refl, sym, ◌∙◌, arith, false, map, ltb, ◌||◌, slice_get, None, Some, ap, eq-eqb, and_parts, and_from, agree_below, agree_below_at, both_ways, ltb-true, or_cases, nat_tests, map-append, drop-map, length-map, get_or-map, slice_get-get_or, slice_get_within, get_or_from_slice_get, common_steps, bytes_decides, bytes_eq, eqb-true}
use Rattle.std.proofs.Common.{Decides}
use Rattle.langtag_scan.specs.Grammar.{fold_byte, fold_text, grandfathered_tags, irregular_texts, Grandfathered, folded_texts, folded_at, is_prefix, is_possible, Alike, are_alike, are_alike-decides, IsIrregularPrefix, IsIrregularAt, IsNormal, IsPrivate, IsIrregular, IsTag, is_letter, is_digit, is_primary, is_extended, is_script, is_region, is_variant, is_extension_subtag, is_private_subtag, is_mark, is_singleton, segments, Start}
use Rattle.langtag_scan.specs.Irregular.{has_at}
use Rattle.langtag_scan.proofs.NormalTexts.{runs_from_normal, runs_private, runs_from_private, one_no_primary, normal_from_runs}
use Rattle.langtag_scan.proofs.CaseLaw.{runs-fold, runs_private-fold, segments_test-fold}
use Rattle.langtag_scan.proofs.StageLaws.{runs}
use Rattle.langtag_scan.proofs.TagLaws.{tag_normal, tag_irregular}

-- ---- the table

seventeen : length irregular_texts ≡ 17
unfolding irregular_texts grandfathered_tags
seventeen = refl

pub seventeen_folded : length folded_texts ≡ 17
unfolding folded_texts
seventeen_folded = length-map irregular_texts fold_text ∙ seventeen

folded_at-fold : (k : ℕ) → k < 17 → folded_at k ≡ fold_text (get_or irregular_texts k [])
unfolding folded_texts
folded_at-fold k within = get_or-map fold_text irregular_texts k [] [] (omega (arith, seventeen))

-- a text is irregular where its fold stands in the table
pub irregular_from_fold : (t : List ℕ) (k : ℕ) → k < 17 → folded_at k ≡ fold_text t → IsIrregularAt k t
unfolding IsIrregularAt
irregular_from_fold t k within same = grind (arith, common_steps, slice_get-get_or irregular_texts k, seventeen, folded_at-fold k within)

-- and only there
pub irregular_fold : (t : List ℕ) (k : ℕ) → IsIrregularAt k t → (k < 17) × (folded_at k ≡ fold_text t)
unfolding IsIrregularAt
irregular_fold t k (name, at, same) =
    grind (arith, common_steps, seventeen, slice_get_within irregular_texts k name at, folded_at-fold k, get_or_from_slice_get irregular_texts k name)

-- ---- prefixes

-- a text begins with each of its prefixes
is_prefix-append : (p u : List ℕ) → is_prefix p (p ++ u) ≡ true
is_prefix-append [] u = refl
is_prefix-append (b ∷ p) u = and_from (eqb b b) (is_prefix p (p ++ u)) (eq-eqb b b refl) (is_prefix-append p u)

-- and is the prefix and what stands after it
pub prefix_rest : (p text : List ℕ) → is_prefix p text ≡ true → p ++ drop (length p) text ≡ text
prefix_rest [] text h = refl
prefix_rest (b ∷ p) [] h = absurd cc
prefix_rest (b ∷ p) (c ∷ text) h = grind (arith, common_steps, and_parts (eqb b c) (is_prefix p text) h, eqb-true, prefix_rest p text)

-- a prefix with one byte more
pub is_prefix-push : (p text : List ℕ) (b : ℕ) → is_prefix (p ++ b ∷ []) text ≡ (is_prefix p text && has_at text (length p) b)
is_prefix-push [] [] b = refl
is_prefix-push [] (c ∷ text) b = grind (arith, common_steps, nat_tests)
is_prefix-push (x ∷ p) [] b = refl
is_prefix-push (x ∷ p) (c ∷ text) b = grind (arith, common_steps, is_prefix-push p text b, nat_tests)

-- ---- none begins another

-- two tests of each pair
each_pair : (f g : ℕ → ℕ → Bool) (n : ℕ) → agree_below (λ i. agree_below (f i) (g i) n) (λ i. true) n ≡ true → (i j : ℕ) → i < n → j < n → f i j ≡ g i j
each_pair f g n all i j in_i in_j =
    agree_below_at (f i) (g i) n j (agree_below_at (λ i. agree_below (f i) (g i) n) (λ i. true) n i all in_i) in_j

folded_once : (i j : ℕ) → i < 17 → j < 17 → is_prefix (folded_at i) (folded_at j) ≡ eqb i j
unfolding fold_byte folded_texts irregular_texts grandfathered_tags
folded_once = each_pair (λ i j. is_prefix (folded_at i) (folded_at j)) eqb 17 refl

-- so no text is irregular at two indices
pub irregular_once : (j k : ℕ) (t : List ℕ) → IsIrregularAt j t → IsIrregularAt k t → j ≡ k
irregular_once j k t first other =
    grind (arith, common_steps, irregular_fold t j first, irregular_fold t k other, eqb-true j k, folded_once j k, folded_once k k, eq-eqb k k refl)

-- ---- the texts that are reached

-- a possible text is reached
pub possible_viable : (p : List ℕ) (k : ℕ) → k < 17 → is_possible p k ≡ true → (u : List ℕ) × IsIrregularAt k (p ++ u)
possible_viable p k within h =
    let rest : List ℕ = drop (length p) (get_or irregular_texts k []) in
    let same = prefix_rest (fold_text p) (folded_at k) h in
    let parts = map-append fold_byte p rest in
    (rest, grind (arith, common_steps, irregular_from_fold (p ++ rest) k within, folded_at-fold k within, length-map p fold_byte, drop-map fold_byte (length p), parts))

-- and each prefix of an irregular text keeps it possible
pub possible_prefix : (p u : List ℕ) (k : ℕ) → IsIrregularAt k (p ++ u) → (k < 17) × (is_possible p k ≡ true)
possible_prefix p u k irregular = grind (arith, common_steps, irregular_fold, map-append, is_prefix-append)

-- ---- no text is of two of the three cases of a tag

-- no normal text is private
pub normal_no_private : (t : List ℕ) → IsNormal t → IsPrivate t → ⊥
unfolding runs
normal_no_private t normal private = grind (arith, common_steps, runs_from_normal, runs_from_private, one_no_primary)

-- where the fold changes nothing of a test of lists of subtags, and no text of the table passes it, no irregular text does
irregular_fails :
    (test : List (List ℕ) → Bool) → ((ss : List (List ℕ)) → test (map fold_text ss) ≡ test ss) →
    ((k : ℕ) → k < 17 → test (segments (folded_at k)) ≡ false) → (t : List ℕ) → IsIrregular t → test (segments t) ≡ false
unfolding IsIrregular
irregular_fails test same none t (k, irregular) = grind (arith, common_steps, irregular_fold t k irregular, segments_test-fold test same t)

-- no irregular text begins with a primary subtag that the rest may follow
none_normal : (k : ℕ) → k < 17 → runs Start (segments (folded_at k)) ≡ false
unfolding runs fold_byte folded_texts irregular_texts grandfathered_tags is_letter is_digit is_primary is_extended is_script is_region is_variant is_extension_subtag is_private_subtag is_mark is_singleton
none_normal k within = agree_below_at (λ j. runs Start (segments (folded_at j))) (λ j. false) 17 k refl within

-- and none with a mark
none_private : (k : ℕ) → k < 17 → runs_private (segments (folded_at k)) ≡ false
unfolding runs fold_byte folded_texts irregular_texts grandfathered_tags is_mark
none_private k within = agree_below_at (λ j. runs_private (segments (folded_at j))) (λ j. false) 17 k refl within

-- no normal text is irregular
pub normal_no_irregular : (t : List ℕ) → IsNormal t → IsIrregular t → ⊥
normal_no_irregular t normal irregular =
    both_ways (runs Start (segments t)) (irregular_fails (runs Start) (runs-fold Start) none_normal t irregular) (runs_from_normal t normal)

-- no private text is irregular
pub private_no_irregular : (t : List ℕ) → IsPrivate t → IsIrregular t → ⊥
private_no_irregular t private irregular =
    both_ways (runs_private (segments t)) (irregular_fails runs_private runs_private-fold none_private t irregular) (runs_from_private t private)

-- ---- each grandfathered text is a tag: the irregular ones by a rule of their own, and the regular ones as normal tags

-- the text is alike the irregular one at this index, or its subtags may follow one another
abbrev is_accepted : ℕ → List ℕ → Bool
is_accepted k text = (ltb k 17 && bytes_eq (folded_at k) (fold_text text)) || runs Start (segments text)

accepted_tag : (k : ℕ) (text : List ℕ) → is_accepted k text ≡ true → IsTag text
accepted_tag k text accepted =
    let same = bytes_decides (folded_at k) (fold_text text) in
    grind (arith, common_steps, or_cases, and_parts, ltb-true, tag_irregular text k, irregular_from_fold text k, tag_normal text, normal_from_runs text)

-- the text of each entry of the table is a tag
pub registered_tag : (k : ℕ) (entry : Grandfathered) → slice_get grandfathered_tags k ≡ Some entry → IsTag entry.text
unfolding fold_byte folded_texts grandfathered_tags irregular_texts runs is_letter is_digit is_primary is_extended is_script is_region is_variant is_mark is_singleton
registered_tag k entry at =
    let none : Grandfathered = record { text = []; language = None } in
    let accepted = agree_below_at (λ j. is_accepted j (get_or grandfathered_tags j none).text) (λ j. true) 26 k refl (slice_get_within grandfathered_tags k entry at) in
    accepted_tag k entry.text (ap (λ e. is_accepted k e.text) (sym (get_or_from_slice_get grandfathered_tags k entry none at)) ∙ accepted)

-- ---- one of the texts

-- some irregular tag has a property exactly where one passes the test that decides it
module _ (test : List ℕ → Bool) (P : List ℕ → Type 0) (decides : (name : List ℕ) → Decides (test name) (P name)) where
  some_test : IsTrue (list_any test irregular_texts) ↔ ((k : ℕ) × (name : List ℕ) × (slice_get irregular_texts k ≡ Some name) × P name)
  some_test = (
    λ found. grind (arith, common_steps, Any-from_list_any, slice_get_read),
    λ (k, name, at, is). grind (arith, nat_tests, list_any_at, slice_get_within irregular_texts k name at, get_or_from_slice_get irregular_texts k name [] at),
  )

pub begins_some : (p : List ℕ) → IsTrue (list_any (λ name. are_alike p (take (length p) name)) irregular_texts) ↔ IsIrregularPrefix p
unfolding IsIrregularPrefix
begins_some p = some_test _ (λ name. Alike p (take (length p) name)) (λ name. are_alike-decides p (take (length p) name))

pub alike_some : (t : List ℕ) → IsTrue (list_any (λ name. are_alike name t) irregular_texts) ↔ IsIrregular t
unfolding IsIrregular IsIrregularAt
alike_some t =
    let some = some_test (λ name. are_alike name t) (λ name. Alike name t) (λ name. are_alike-decides name t) in
    (λ found. let (k, name, at, alike) = some.0 found in (k, (name, at, alike)), λ is. some.1 (is.0, is.1.0, is.1.1, is.1.2))
