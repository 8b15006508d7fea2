use Rattle.langtag_keyword.proofs.Common.{◌≡◌, false, before_key, length, segments_left, Output, Pushes}
use Rattle.langtag_locale.specs.Resolved.{from_greater, is_greater_key, remaining_subtags}
use Rattle.langtag_locale.specs.WishTexts.{wish_texts}
use Rattle.langtag_locale.proofs.resolved_keywords.push_before.Given as goal

-- those that stay of the rest, up to the greater key, are put after those before them
abbrev pub invariant-loop-rest : goal.invariant-loop-rest
invariant-loop-rest l = record {
  before : (new : Output) → Pushes (before_key (is_greater_key l.key) (remaining_subtags (wish_texts l.wish) l.is_removed (segments_left l.rest))) l.out new →
      Pushes (before_key (is_greater_key l.key) (remaining_subtags (wish_texts l.wish) false (segments_left l.fn.rest))) l.fn.out new;
  left : from_greater l.key (remaining_subtags (wish_texts l.wish) l.is_removed (segments_left l.rest)) ≡ from_greater l.key (remaining_subtags (wish_texts l.wish) false (segments_left l.fn.rest));
}

abbrev pub decreases-loop-rest : goal.decreases-loop-rest
decreases-loop-rest l = length (segments_left l.rest)
