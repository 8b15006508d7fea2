use Rattle.langtag_keyword.proofs.Common.{◌≡◌, subtags, without_keyword, without_within}
use Rattle.langtag_keyword.proofs.edited_subtags.has_others.Given as goal

-- none of those before this one stays
abbrev pub invariant-loop-subtag : goal.invariant-loop-subtag
invariant-loop-subtag l = record {
  can_next : (goal.iterator-loop-subtag).can_next l.subtag-iterator;
  is_finite : (goal.iterator-loop-subtag).is_finite l.subtag-iterator;
  so_far : without_within l.key l.is_inside l.subtag-iterator ≡ without_keyword l.key (subtags l.text);
}
