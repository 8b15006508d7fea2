use Rattle.std.proofs.Common.{◌∙◌, arith}
use Rattle.langtag_keyword.proofs.AlphabetLaws.{before-left, before-right}
use Rattle.langtag_keyword.proofs.alphabet.is_before.Goals.{in_default, in_default-2}
use Rattle.langtag_keyword.proofs.alphabet.is_before.Goals as goal

pub returns : goal.returns
returns c =
    elim c.if-a-lt1.branch [
      | in_default w ↦ before-left c.loop-a.a.now c.loop-a.b.now (grind arith) ∙ c.loop-a.invariant
      | in_default-2 w ↦ before-right c.loop-a.a.now c.loop-a.b.now (grind arith) ∙ c.loop-a.invariant
    ]
