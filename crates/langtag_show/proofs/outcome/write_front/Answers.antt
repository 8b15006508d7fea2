use Rattle.std.proofs.Common.{arith, length-drop}
use Rattle.std.proofs.KnownBytes.{Appends-kept}
use Rattle.langtag_show.proofs.Written.{Appends-more}
use Rattle.langtag_show.proofs.outcome.write_front.Goals as goal
use Rattle.langtag_show.proofs.outcome.write_front.Goals.{in-Ok, in-Err}

pub loop-turn-preserved : goal.loop-turn-preserved
loop-turn-preserved g c =
    elim c.match-write.branch [ in-Ok w ↦ grind (arith, length-drop, Appends-more, w.in-Ok, w.count-is, c.loop-turn.invariant, c.write.ensures.bound, c.write.ensures.bytes) | in-Err w ↦ grind (arith, Appends-kept, w.in-Err, w.count-is, c.loop-turn.invariant, c.write.ensures.bytes) ]
