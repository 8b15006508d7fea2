use Rattle.langtag_keyword.proofs.Common.{common_steps, arith}
use Rattle.langtag.proofs.RepeatLaws.{IsAt-drop}
use Rattle.langtag_keyword.proofs.SubtagTexts.{first-new, first-other}
use Rattle.langtag_unicode.proofs.attributes_iter.AttributesIterIterator.next.Goals as goal

pub invariant_of-self : goal.invariant_of-self
invariant_of-self c = grind (arith, common_steps, IsAt-drop)

pub returns-then-not-is_repeated-clause-steps : goal.returns-then-not-is_repeated-clause-steps
returns-then-not-is_repeated-clause-steps c = grind (arith, common_steps, first-new)

pub returns-then-not-is_repeated-clause-goes : goal.returns-then-not-is_repeated-clause-goes
returns-then-not-is_repeated-clause-goes c = grind (arith, common_steps, first-new)

pub loop-attribute-preserved : goal.loop-attribute-preserved
loop-attribute-preserved c = grind (arith, common_steps, first-other)
