use Rattle.std.proofs.Common.{◌≡◌, length}
use Rattle.langtag_scan.proofs.Prelude.{list_any}
use Rattle.langtag_scan.specs.Grammar.{are_alike}
use Rattle.langtag_choice.specs.Variants.{text_variants, variant_parts}
use Rattle.langtag_choice.proofs.variants.has_variant.Given as goal

abbrev pub invariant-loop-own : goal.invariant-loop-own
invariant-loop-own l = list_any (are_alike l.variant) (variant_parts l.left) ≡ list_any (are_alike l.variant) (text_variants l.tag)

abbrev pub decreases-loop-own : goal.decreases-loop-own
decreases-loop-own l = length l.left
