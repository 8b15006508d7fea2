use Rattle.std.proofs.Common.{◌↔◌, ◌∷◌, ℕ, List}
use Rattle.langtag_range.specs.Extended.{StandAmong}
use Rattle.langtag_range.proofs.extended.pass.Given as goal

-- nothing that was left out could be the wanted subtag, and it had no singleton
abbrev pub invariant-loop-subtag : goal.invariant-loop-subtag
invariant-loop-subtag l = record {
  can_next : (goal.iterator-loop-subtag).can_next l.subtags;
  is_finite : (goal.iterator-loop-subtag).is_finite l.subtags;
  same : (more : List (List ℕ)) → StandAmong (l.wanted ∷ more) l.subtags ↔ StandAmong (l.wanted ∷ more) l.initial.subtags;
}
