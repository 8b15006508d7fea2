use Rattle.std.proofs.Common.{◌≡◌, ◌+◌, ◌≤◌, length}
use Rattle.langtag_choice.specs.Variants.{text_variants, variant_parts}
use Rattle.langtag_choice.proofs.variants.variant_count.Given as goal

abbrev pub invariant-loop-rest : goal.invariant-loop-rest
invariant-loop-rest l = record {
  within : l.count + length l.left ≤ length l.range;
  variants : l.count + length (variant_parts l.left) ≡ length (text_variants l.range);
}

abbrev pub decreases-loop-rest : goal.decreases-loop-rest
decreases-loop-rest l = length l.left
