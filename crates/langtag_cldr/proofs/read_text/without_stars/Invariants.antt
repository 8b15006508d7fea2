use Rattle.std.proofs.Common.{◌≡◌, ◌≤◌, length}
use Rattle.langtag_range.specs.Listed.{basic_text}
use Rattle.langtag_cldr.proofs.read_text.without_stars.Given as goal

abbrev pub invariant-loop-left : goal.invariant-loop-left
invariant-loop-left l = record {
  same : basic_text l.left ≡ basic_text l.range;
  within : length l.left ≤ length l.range;
}

abbrev pub decreases-loop-left : goal.decreases-loop-left
decreases-loop-left l = length l.left
