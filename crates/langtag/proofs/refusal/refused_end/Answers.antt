use Rattle.langtag_scan.proofs.Prelude.{arith, take_all, common_steps}
use Rattle.langtag.proofs.RefusalLaws.{first_end, second_end}
use Rattle.langtag.proofs.refusal.refused_end.Goals as goal

pub returns-then-is_tag : goal.returns-then-is_tag
returns-then-is_tag c = grind (arith, common_steps, second_end c.args.bytes.now c.args.viable c.requires.viable c.segment_end-end.result c.segment_end.result)

pub returns : goal.returns
returns c = grind (arith, common_steps, first_end c.args.bytes.now c.args.viable c.requires.viable c.segment_end-end.result, take_all)
