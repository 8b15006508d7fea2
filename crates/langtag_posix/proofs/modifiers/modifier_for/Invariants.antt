use Rattle.std.proofs.Common.{◌≡◌, find, length, map}
use Rattle.langtag_posix.specs.Modifiers.{modifier_for, names}
use Rattle.langtag_posix.proofs.modifiers.modifier_for.Given as goal

-- the modifiers so far name something else
abbrev pub invariant-loop-modifiers : goal.invariant-loop-modifiers
invariant-loop-modifiers l = find (names l.script l.variants) (map (λ modifier. modifier.now) l.modifiers) ≡ modifier_for l.fn.script l.fn.variants

abbrev pub decreases-loop-modifiers : goal.decreases-loop-modifiers
decreases-loop-modifiers l = length l.modifiers
