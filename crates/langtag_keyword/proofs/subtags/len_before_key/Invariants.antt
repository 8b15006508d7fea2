use Rattle.langtag_keyword.proofs.Common.{◌≡◌, ◌+◌, subtags, length_with_hyphens, opens_keyword, before_key}
use Rattle.langtag_keyword.proofs.subtags.len_before_key.Given as goal

-- what is counted, and those before the first key that are left, are all before the first key
abbrev pub invariant-loop-subtag : goal.invariant-loop-subtag
invariant-loop-subtag l = record {
  can_next : (goal.iterator-loop-subtag).can_next l.subtag-iterator;
  is_finite : (goal.iterator-loop-subtag).is_finite l.subtag-iterator;
  so_far : l.len + length_with_hyphens (before_key (opens_keyword l.keys) l.subtag-iterator) ≡ length_with_hyphens (before_key (opens_keyword l.keys) (subtags l.text));
}
