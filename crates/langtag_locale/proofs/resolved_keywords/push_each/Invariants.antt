use Rattle.langtag_keyword.proofs.Common.{ℕ, List, ◌++◌, drop, false, map, keyword_form, key_of, is_key, unicode_value, segments_left, Output, Pushes}
use Rattle.langtag_locale.specs.Resolved.{remaining_subtags, with_keywords}
use Rattle.langtag_locale.specs.WishTexts.{wish_texts}
use Rattle.langtag_locale.proofs.resolved_keywords.push_each.Given as goal

-- the keywords of the numbers that are left, and others, are put after those before them
abbrev pub invariant-loop-number : goal.invariant-loop-number
invariant-loop-number l =
    let put : List (List ℕ) → List (List ℕ) → List (List ℕ) = with_keywords (keyword_form is_key unicode_value (wish_texts l.wish).unicode) in
    (keys : List (List ℕ)) (end : Output) →
    Pushes (put (map key_of (drop l.number-index l.numbers) ++ keys) (remaining_subtags (wish_texts l.wish) false (segments_left l.rest))) l.out end →
    Pushes (put (map key_of l.numbers ++ keys) (remaining_subtags (wish_texts l.wish) false (segments_left l.fn.rest))) l.fn.out end
