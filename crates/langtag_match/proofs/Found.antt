-- The tags that a filter finds, a tag and a range at a time, are those that some range matches, in another order.
use Rattle.langtag_scan.proofs.Prelude.{◌≡◌, ℕ, ◌+◌, ◌<◌, ◌&&◌, Bool, true, not, List, ◌∷◌, Some, length, drop, get_or, arith, ◌≤◌, false, [], ◌++◌, refl, list_any, slice_get, filter, at_drop_more, get_or_from_slice_get, common_steps, IsPermutation, and-true, filter_agree, list_any-append, length_permutation, length-filter, count_by-le-length}
use Rattle.langtag.specs.declared.lang_tag.LangTag.{LangTag}
use Rattle.langtag_match.specs.Filter.{finds, newly_found, found_after, found_from, is_found, filtered, AreFoundOnce}
use Rattle.langtag_match.specs.declared.language_range.LanguageRange.{LanguageRange}
use Rattle.std.proofs.lemmas.List.Sorted.{IsPermutation-refl, IsPermutation-trans, IsPermutation-append_right, IsPermutation-filter_both}

module _ (matches : List ℕ → List ℕ → Bool) (before : List LanguageRange) (range : LanguageRange) where
  abbrev is_here : LangTag → Bool
  is_here tag = finds matches range tag && not (list_any (λ earlier. finds matches earlier tag) before)

  -- the tag at an index is newly found
  pub newly_found-here :
      (tags : List LangTag) (index : ℕ) (tag next : LangTag) → index < length tags → tag ≡ get_or tags index tag →
      is_here tag ≡ true → slice_get tags index ≡ Some next →
      newly_found matches before range (drop index tags) ≡ next ∷ newly_found matches before range (drop (index + 1) tags)
  newly_found-here tags index tag next below at new is =
      grind (arith, common_steps, at_drop_more (newly_found matches before range) tags index tag below, get_or_from_slice_get tags index next tag is)

module _ (matches : List ℕ → List ℕ → Bool) (tags : List LangTag) where
  pub found_from-start : (before ranges : List LanguageRange) → found_from matches before ranges tags tags ≡ found_after matches before ranges tags
  found_from-start before ranges = grind (arith, common_steps)

filter-none : (tags : List LangTag) → filter (λ tag. false) tags ≡ []
filter-none [] = refl
filter-none (tag ∷ tags) = filter-none tags

-- a test of those that pass another is a test of all
filter-filter : (p q r : LangTag → Bool) → ((tag : LangTag) → (q tag && p tag) ≡ r tag) → (tags : List LangTag) → filter p (filter q tags) ≡ filter r tags
filter-filter p q r both [] = refl
filter-filter p q r both (tag ∷ tags) = grind (arith, common_steps, both tag, filter-filter p q r both tags)

module _ (matches : List ℕ → List ℕ → Bool) where
  -- some of the ranges matches a tag, and none before them does
  abbrev is_new : List LanguageRange → List LanguageRange → LangTag → Bool
  is_new before ranges tag = is_found matches ranges tag && not (is_found matches before tag)

  found_after-permutation :
      (before ranges : List LanguageRange) (tags : List LangTag) → IsPermutation (filter (is_new before ranges) tags) (found_after matches before ranges tags)
  found_after-permutation before [] tags = rw (filter-none tags) (IsPermutation-refl [])
  found_after-permutation before (range ∷ ranges) tags =
      let here : LangTag → Bool = λ tag. finds matches range tag && not (is_found matches before tag) in
      let all : LangTag → Bool = is_new before (range ∷ ranges) in
      let later : LangTag → Bool = is_new (before ++ range ∷ []) ranges in
      let cut = IsPermutation-filter_both here (λ tag. not (here tag)) (λ tag. refl) (filter all tags) in
      let first = filter-filter here all here (λ tag. grind (arith, common_steps)) tags in
      let rest = filter-filter (λ tag. not (here tag)) all later (λ tag. grind (arith, common_steps, list_any-append (λ earlier. finds matches earlier tag) before (range ∷ []))) tags in
      IsPermutation-trans _ _ _ cut
      (rw (first, rest) (IsPermutation-append_right (newly_found matches before range tags) _ _ (found_after-permutation (before ++ range ∷ []) ranges tags)))

  pub found_once : (ranges : List LanguageRange) (tags : List LangTag) → AreFoundOnce matches ranges tags (filtered matches ranges tags)
  found_once ranges tags = grind (arith, common_steps, filter_agree (is_new [] ranges) (is_found matches ranges), and-true, found_after-permutation)

  -- so no more are found than there are
  pub few_found : (ranges : List LanguageRange) (tags : List LangTag) → length (filtered matches ranges tags) ≤ length tags
  few_found ranges tags =
      let found = filter (is_found matches ranges) tags in
      omega (arith, length_permutation found (filtered matches ranges tags) (found_once ranges tags), length-filter (is_found matches ranges) tags, count_by-le-length (is_found matches ranges) tags)

pub ruleset found_laws = (found_from-start, found_once, few_found)
