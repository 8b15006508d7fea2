use Rattle.langtag_scan.proofs.Prelude.{arith, length-drop, take_more_set, common_steps}
use Rattle.langtag_place.proofs.RepeatLaws.{IsAt-drop, numbers-more}
use Rattle.langtag_place.proofs.variant_blocks.fill.Goals.{in-Some, in_default}
use Rattle.langtag_place.proofs.variant_blocks.fill.Goals as goal

pub loop-number-preserved : goal.loop-number-preserved
loop-number-preserved c = grind (arith, common_steps, in-Some, IsAt-drop, take_more_set c.loop-number.block, numbers-more, in_default, length-drop)
