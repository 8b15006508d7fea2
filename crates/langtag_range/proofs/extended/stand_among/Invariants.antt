use Rattle.std.proofs.Common.{◌↔◌}
use Rattle.langtag_range.specs.Extended.{StandAmong, without_stars}
use Rattle.langtag_range.proofs.extended.stand_among.Given as goal

-- the subtags that are left stand among those that are left
abbrev pub invariant-loop-subtag : goal.invariant-loop-subtag
invariant-loop-subtag l = record {
  can_next : (goal.iterator-loop-subtag).can_next l.subtag-iterator;
  is_finite : (goal.iterator-loop-subtag).is_finite l.subtag-iterator;
  same : StandAmong (without_stars l.subtag-iterator) l.subtags ↔ StandAmong (without_stars l.fn.wanted) l.fn.subtags;
}
