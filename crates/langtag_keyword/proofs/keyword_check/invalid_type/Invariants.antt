use Rattle.langtag_keyword.proofs.Common.{◌≡◌, ◌+◌, subtags, length_with_hyphens}
use Rattle.langtag_keyword.specs.Edit.{invalid_type, invalid_type_from}
use Rattle.langtag_keyword.proofs.keyword_check.invalid_type.Given as goal

-- those before this one are types
abbrev pub invariant-loop-subtag : goal.invariant-loop-subtag
invariant-loop-subtag l = record {
  can_next : (goal.iterator-loop-subtag).can_next l.subtag-iterator;
  is_finite : (goal.iterator-loop-subtag).is_finite l.subtag-iterator;
  counted : l.offset + length_with_hyphens l.subtag-iterator ≡ length_with_hyphens (subtags l.value);
  so_far : invalid_type_from l.offset l.subtag-iterator ≡ invalid_type (subtags l.value);
}
