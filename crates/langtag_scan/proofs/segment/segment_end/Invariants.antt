use Rattle.std.proofs.Common.{◌≤◌, length, ◌-◌}
use Rattle.langtag_scan.specs.Subtags.{NoHyphenWithin}
use Rattle.langtag_scan.proofs.segment.segment_end.Given as goal

abbrev pub invariant-loop-end : goal.invariant-loop-end
invariant-loop-end l = record {
  at_or_after : l.index ≤ l.end;
  within : l.end ≤ length l.bytes;
  first : NoHyphenWithin l.bytes l.index l.end;
}

abbrev pub decreases-loop-end : goal.decreases-loop-end
decreases-loop-end l = length l.bytes - l.end
