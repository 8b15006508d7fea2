use Rattle.langtag_scan.proofs.Prelude.{arith, length_push, common_steps}
use Rattle.langtag_scan.specs.Subtags.{segments_left}
use Rattle.langtag_scan.proofs.SubtagLists.{segments_left-last}
use Rattle.langtag_scan.proofs.subtags.SubtagsDoubleEndedIterator.next_back.Goals as goal

pub returns-clause-steps : goal.returns-clause-steps
returns-clause-steps c = grind (arith, common_steps, segments_left-last)

pub returns-clause-goes : goal.returns-clause-goes
returns-clause-goes c = grind (arith, common_steps, segments_left-last, length_push (segments_left c.split_last.result.0) c.split_last.result.1.now)
