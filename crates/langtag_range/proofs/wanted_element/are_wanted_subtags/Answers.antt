use Rattle.langtag_scan.proofs.Prelude.{arith, common_steps, drop_all, drop_more}
use Rattle.langtag_range.proofs.PlainElements.{reads_subtags}
use Rattle.langtag_range.proofs.wanted_element.are_wanted_subtags.Goals as goal

pub returns-else-len-gt0 : goal.returns-else-len-gt0
returns-else-len-gt0 c = grind (arith, common_steps, reads_subtags c.args.text.now, drop_more c.args.text.now c.loop-byte.byte-index 0)

pub returns : goal.returns
returns c = grind (arith, common_steps, reads_subtags c.args.text.now, drop_all c.loop-byte.byte-index c.args.text.now)
