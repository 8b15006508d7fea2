use Rattle.langtag_scan.proofs.Prelude.{arith, common_steps}
use Rattle.langtag_scan.proofs.CaseLaw.{fold_text-twice}
use Rattle.langtag_text.proofs.Letters.{extended_primary}
use Rattle.langtag_text.proofs.Pushed.{pushes_same}
use Rattle.langtag_canonical.proofs.ReplacedSubtags.{ignore_case}
use Rattle.langtag_canonical.proofs.canonical_parts.push_extlang.Goals as goal

pub from_checked-requires : goal.from_checked-requires
from_checked-requires c = extended_primary c.as_str.result.now c.as_str.ensures.in_class

pub returns-in-Some : goal.returns-in-Some
returns-in-Some c = grind (arith, common_steps, ignore_case.0, fold_text-twice, pushes_same)

pub returns-in-None : goal.returns-in-None
returns-in-None c = grind (arith, common_steps, ignore_case.0, fold_text-twice, pushes_same)
