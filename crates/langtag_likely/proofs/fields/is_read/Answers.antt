use Rattle.std.proofs.Common.{arith}
use Rattle.langtag_likely.proofs.PutLaws.{short_read}
use Rattle.langtag_likely.proofs.fields.is_read.Goals as goal

pub returns-then-ends-le3 : goal.returns-then-ends-le3
returns-then-ends-le3 c = λ r spells. short_read r _ c.ends.result spells (c.ends.ensures r spells) (omega (arith, c.if-ends-le3.true))
