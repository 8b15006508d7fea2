use Rattle.langtag_keyword.proofs.Common.{◌≡◌, false, subtags, are_fields}
use Rattle.langtag_keyword.proofs.transform_form.are_fields.Given as goal

-- the answer hangs on what is left
abbrev pub invariant-loop-subtag : goal.invariant-loop-subtag
invariant-loop-subtag l = record {
  can_next : (goal.iterator-loop-subtag).can_next l.subtag-iterator;
  is_finite : (goal.iterator-loop-subtag).is_finite l.subtag-iterator;
  so_far : are_fields l.in_fields l.after_key l.subtag-iterator ≡ are_fields false false (subtags l.text);
}
