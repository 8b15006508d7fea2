use Rattle.langtag_scan.proofs.Prelude.{arith, common_steps}
use Rattle.langtag_range.proofs.Among.{before_hyphens-whole, before_hyphens-cut, is_language_range-cut}
use Rattle.langtag_range.proofs.fallback.len_without_last.Goals as goal

pub returns-then-start-eq0-clause-cut : goal.returns-then-start-eq0-clause-cut
returns-then-start-eq0-clause-cut c = grind (arith, common_steps, before_hyphens-whole)

pub returns-clause-cut : goal.returns-clause-cut
returns-clause-cut c = grind (arith, common_steps, before_hyphens-cut)

pub returns-clause-in_class : goal.returns-clause-in_class
returns-clause-in_class c = grind (arith, common_steps, is_language_range-cut)
