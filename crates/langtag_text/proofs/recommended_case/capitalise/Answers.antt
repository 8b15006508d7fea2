use Rattle.std.proofs.Common.{arith}
use Rattle.langtag_text.proofs.PieceLaws.{capital-put, capitals-put}
use Rattle.langtag_text.proofs.recommended_case.capitalise.Goals as goal

pub returns-in-0 : goal.returns-in-0
returns-in-0 c = rw c.in-0.is (capitals-put 0 _ (omega arith) c.requires.small)

pub returns-in-1 : goal.returns-in-1
returns-in-1 c = rw (c.make_ascii_uppercase.ensures.after, c.in-1.is) (capital-put _ (omega arith) c.requires.small)

pub returns-in_default : goal.returns-in_default
returns-in_default c = rw c.make_ascii_uppercase-in_default.ensures.after (capitals-put _ _ c.requires.within c.requires.small)
