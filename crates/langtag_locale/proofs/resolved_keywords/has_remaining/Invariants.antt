use Rattle.langtag_keyword.proofs.Common.{◌≡◌, false, subtags}
use Rattle.langtag_locale.specs.Resolved.{remaining_subtags}
use Rattle.langtag_locale.specs.WishTexts.{wish_texts}
use Rattle.langtag_locale.proofs.resolved_keywords.has_remaining.Given as goal

-- none of those before this one stays
abbrev pub invariant-loop-subtag : goal.invariant-loop-subtag
invariant-loop-subtag l = record {
  can_next : (goal.iterator-loop-subtag).can_next l.subtag-iterator;
  is_finite : (goal.iterator-loop-subtag).is_finite l.subtag-iterator;
  so_far : remaining_subtags (wish_texts l.wish) l.is_removed l.subtag-iterator ≡ remaining_subtags (wish_texts l.wish) false (subtags l.text);
}
