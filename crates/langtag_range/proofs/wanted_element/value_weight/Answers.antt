use Rattle.langtag_scan.proofs.Prelude.{arith, common_steps, prefix_len-le-length}
use Rattle.langtag_range.proofs.WantedTexts.{value_with_point}
use Rattle.langtag_range.proofs.Places.{none_at_length}
use Rattle.langtag_range.proofs.wanted_element.value_weight.Goals as goal

pub returns-then-whole-value : goal.returns-then-whole-value
returns-then-whole-value c = grind (arith, common_steps, value_with_point)

pub returns : goal.returns
returns c = grind (arith, common_steps, none_at_length, prefix_len-le-length)
