use Rattle.langtag_scan.proofs.Prelude.{length, take, list_all, true, ◌-◌, ◌≡◌, ◌≤◌}
use Rattle.langtag_scan.specs.Class as class
use Rattle.langtag_scan.proofs.class.are_letters.Given as goal

abbrev pub invariant-loop-index : goal.invariant-loop-index
invariant-loop-index l = (l.index ≤ length l.bytes) × (list_all class.is_letter (take l.index l.bytes) ≡ true)

abbrev pub decreases-loop-index : goal.decreases-loop-index
decreases-loop-index l = length l.bytes - l.index
