use Rattle.std.proofs.Common.{◌-◌, ◌≤◌}
use Rattle.langtag.specs.Refusal.{AlphanumericWithin}
use Rattle.langtag.proofs.refusal.first_other.Given as goal

abbrev pub invariant-loop-index : goal.invariant-loop-index
invariant-loop-index l = record {
  from : l.start ≤ l.index;
  to : l.index ≤ l.end;
  before : AlphanumericWithin l.bytes l.start l.index;
}

abbrev pub decreases-loop-index : goal.decreases-loop-index
decreases-loop-index l = l.end - l.index
