use Rattle.std.proofs.Common.{◌≤◌}
use Rattle.langtag_scan.specs.Subtags.{NoHyphenWithin}
use Rattle.langtag_scan.proofs.segment.segment_start.Given as goal

abbrev pub invariant-loop-start : goal.invariant-loop-start
invariant-loop-start l = record {
  within : l.start ≤ l.end;
  last : NoHyphenWithin l.bytes l.start l.end;
}

abbrev pub decreases-loop-start : goal.decreases-loop-start
decreases-loop-start l = l.start
