use Rattle.langtag_scan.proofs.Prelude.{◌≡◌, length, slice_split}
use Rattle.langtag_range.specs.Definitions.{is_semicolon, items, digits_behind, wanted_weight}
use Rattle.langtag_range.proofs.wanted_element.wanted_weight.Given as goal

abbrev pub invariant-loop-left : goal.invariant-loop-left
invariant-loop-left l = wanted_weight (slice_split is_semicolon l.left) (digits_behind (items l.behind)) ≡ wanted_weight (slice_split is_semicolon l.parameters) (digits_behind (items l.behind))

abbrev pub decreases-loop-left : goal.decreases-loop-left
decreases-loop-left l = length l.left
