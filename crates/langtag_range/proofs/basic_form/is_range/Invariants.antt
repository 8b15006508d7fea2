use Rattle.std.proofs.Common.{◌≡◌, length}
use Rattle.langtag_scan.specs.Case.{are_alike}
use Rattle.langtag_range.specs.BasicForm.{basic_form}
use Rattle.langtag_range.proofs.basic_form.is_range.Given as goal

-- what is left of the tag and of the range
abbrev pub invariant-loop-range : goal.invariant-loop-range
invariant-loop-range l = are_alike l.tag (basic_form l.range) ≡ are_alike l.initial.tag (basic_form l.initial.range)

abbrev pub decreases-loop-range : goal.decreases-loop-range
decreases-loop-range l = length l.range
