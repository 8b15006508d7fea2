use Rattle.langtag_keyword.proofs.Common.{◌-◌, ℕ, List, false, filter, map, keyword_form, key_of, is_key, in_alphabet, unicode_value, segments_left, subtags, Output, Pushes}
use Rattle.langtag_keyword.proofs.LeastLaws.{above}
use Rattle.langtag_keyword.proofs.LeastTexts.{Rounds, numbers}
use Rattle.langtag_locale.proofs.ResolvedLaws.{nothing}
use Rattle.langtag_locale.specs.Resolved.{remaining_subtags, with_keywords}
use Rattle.langtag_locale.specs.WishTexts.{wish_texts}
use Rattle.langtag_locale.proofs.resolved_keywords.push_resolved.Given as goal

-- the keywords that are left are put after those before them
abbrev pub invariant-loop-more : goal.invariant-loop-more
invariant-loop-more l =
    let w = wish_texts l.wish in
    let keys = filter is_key w.unicode in
    let put : List ℕ → List (List ℕ) → List (List ℕ) = λ ns others. with_keywords (keyword_form is_key unicode_value w.unicode) (map key_of ns) others in
    record {
      rounds : Rounds nothing keys l.least l.more l.fn.out l.fn.out;
      so_far : (end : Output) →
          Pushes (put (above l.least.last (numbers (in_alphabet keys))) (remaining_subtags w false (segments_left l.rest))) l.out end →
          Pushes (put (numbers (in_alphabet keys)) (remaining_subtags w false (subtags l.text))) l.fn.out end;
    }

abbrev pub decreases-loop-more : goal.decreases-loop-more
decreases-loop-more l = 18446744073709551615 - l.least.last
