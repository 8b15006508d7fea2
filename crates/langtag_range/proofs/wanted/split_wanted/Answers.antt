use Rattle.langtag_scan.proofs.Prelude.{eqb-true, arith, nil_from_length, common_steps}
use Rattle.langtag_range.proofs.WantedTexts.{nothing_written}
use Rattle.langtag_range.proofs.wanted.split_wanted.Goals as goal

pub returns-clause-first : goal.returns-clause-first
returns-clause-first c = grind (arith, common_steps, eqb-true, nil_from_length c.loop-left.left.now, nothing_written)
