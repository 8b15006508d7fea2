use Rattle.langtag_keyword.proofs.Common.{◌∷◌, subtags, Output, Pushes}
use Rattle.langtag_keyword.proofs.edited_subtags.push_keyword.Given as goal

-- those that are left are put after those before them
abbrev pub invariant-loop-subtag : goal.invariant-loop-subtag
invariant-loop-subtag l = record {
  can_next : (goal.iterator-loop-subtag).can_next l.subtag-iterator;
  is_finite : (goal.iterator-loop-subtag).is_finite l.subtag-iterator;
  so_far : (new : Output) → Pushes l.subtag-iterator l.out new → Pushes (l.key ∷ subtags l.value) l.fn.out new;
}
