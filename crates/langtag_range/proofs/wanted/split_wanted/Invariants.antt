use Rattle.std.proofs.Common.{◌≡◌, length}
use Rattle.langtag_range.specs.Wanted.{written_elements}
use Rattle.langtag_range.proofs.wanted.split_wanted.Given as goal

abbrev pub invariant-loop-left : goal.invariant-loop-left
invariant-loop-left l = written_elements l.left ≡ written_elements l.header

abbrev pub decreases-loop-left : goal.decreases-loop-left
decreases-loop-left l = length l.left
