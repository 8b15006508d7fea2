use Rattle.std.proofs.Common.{◌≡◌, length}
use Rattle.langtag_cldr.specs.TextFields.{counted_parts}
use Rattle.langtag_cldr.proofs.text_fields.next_subtag.Given as goal

abbrev pub invariant-loop-left : goal.invariant-loop-left
invariant-loop-left l = counted_parts l.left ≡ counted_parts l.text

abbrev pub decreases-loop-left : goal.decreases-loop-left
decreases-loop-left l = length l.left
