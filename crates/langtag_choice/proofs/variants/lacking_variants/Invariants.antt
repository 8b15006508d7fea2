use Rattle.std.proofs.Common.{◌≡◌, ◌+◌, ◌≤◌, length}
use Rattle.langtag_choice.specs.Variants.{text_variants, variant_parts}
use Rattle.langtag_choice.proofs.VariantTexts.{missing_parts}
use Rattle.langtag_choice.proofs.variants.lacking_variants.Given as goal

abbrev pub invariant-loop-variant : goal.invariant-loop-variant
invariant-loop-variant l = record {
  within : l.count + length l.left ≤ length l.range;
  variants : l.count + missing_parts (variant_parts l.left) (text_variants l.tag) ≡ missing_parts (text_variants l.range) (text_variants l.tag);
}

abbrev pub decreases-loop-variant : goal.decreases-loop-variant
decreases-loop-variant l = length l.left
