use Rattle.std.proofs.Common.{◌≡◌}
use Rattle.langtag_language.specs.Decided.{are_extended_within}
use Rattle.langtag_language.proofs.extended_subtags.are_extended_within.Given as goal

abbrev pub invariant-loop-subtag : goal.invariant-loop-subtag
invariant-loop-subtag l =
    (goal.iterator-loop-subtag).can_next l.subtag-iterator ×
    (goal.iterator-loop-subtag).is_finite l.subtag-iterator ×
    (are_extended_within l.room l.fn.subtags ≡ are_extended_within l.free l.subtag-iterator)
