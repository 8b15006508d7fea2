use Rattle.langtag_keyword.proofs.Common.{◌≡◌, list_any, subtags, is_key}
use Rattle.langtag_locale.proofs.resolved_keywords.has_key.Given as goal

-- none of those before this one is a key
abbrev pub invariant-loop-subtag : goal.invariant-loop-subtag
invariant-loop-subtag l = record {
  can_next : (goal.iterator-loop-subtag).can_next l.subtag-iterator;
  is_finite : (goal.iterator-loop-subtag).is_finite l.subtag-iterator;
  so_far : list_any is_key l.subtag-iterator ≡ list_any is_key (subtags l.text);
}
