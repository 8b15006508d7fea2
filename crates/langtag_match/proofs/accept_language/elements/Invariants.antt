use Rattle.std.proofs.Common.{length}
use Rattle.langtag_match.proofs.Readings.{IsReadTo}
use Rattle.langtag_match.proofs.accept_language.elements.Given as goal

abbrev pub invariant-loop-left : goal.invariant-loop-left
invariant-loop-left l = IsReadTo l.header l.left l.index l.elements.items l.bad

abbrev pub decreases-loop-left : goal.decreases-loop-left
decreases-loop-left l = length l.left
