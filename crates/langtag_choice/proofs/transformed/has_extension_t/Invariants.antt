use Rattle.std.proofs.Common.{◌≡◌, length}
use Rattle.langtag_choice.specs.Transformed.{is_transformed}
use Rattle.langtag_choice.proofs.transformed.has_extension_t.Given as goal

abbrev pub invariant-loop-left : goal.invariant-loop-left
invariant-loop-left l = is_transformed l.left ≡ is_transformed l.text

abbrev pub decreases-loop-left : goal.decreases-loop-left
decreases-loop-left l = length l.left
