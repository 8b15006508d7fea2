use Rattle.std.proofs.Common.{◌≡◌, ◌≤◌, length}
use Rattle.langtag_choice.specs.Variants.{variant_parts}
use Rattle.langtag_choice.proofs.variants.split_variant.Given as goal

abbrev pub invariant-loop-left : goal.invariant-loop-left
invariant-loop-left l = record {
  within : length l.left ≤ length l.text;
  same : variant_parts l.left ≡ variant_parts l.text;
}

abbrev pub decreases-loop-left : goal.decreases-loop-left
decreases-loop-left l = length l.left
