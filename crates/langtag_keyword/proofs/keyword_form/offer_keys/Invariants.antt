use Rattle.langtag_keyword.proofs.Common.{map, AllByRecursion, filter, IsSubtag, subtags, opens_keyword, IsOffered, Least, order_number}
use Rattle.langtag_keyword.proofs.keyword_form.offer_keys.Given as goal

-- the keys that are left are offered after those before them
abbrev pub invariant-loop-subtag : goal.invariant-loop-subtag
invariant-loop-subtag g l = record {
  can_next : (goal.iterator-loop-subtag g).can_next l.subtag-iterator;
  is_finite : (goal.iterator-loop-subtag g).is_finite l.subtag-iterator;
  each : AllByRecursion IsSubtag l.subtag-iterator;
  so_far :
      (new : Least) → IsOffered (map order_number (filter (opens_keyword l.keys) l.subtag-iterator)) l.least new →
      IsOffered (map order_number (filter (opens_keyword l.keys) (subtags l.text))) l.fn.least new;
}
