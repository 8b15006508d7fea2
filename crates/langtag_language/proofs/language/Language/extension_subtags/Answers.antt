use Rattle.langtag_scan.proofs.Prelude.{arith, common_steps}
use Rattle.langtag_language.proofs.Members.{others_spelled}
use Rattle.langtag_language.proofs.language.Language.extension_subtags.Goals as goal

pub returns-clause-members : goal.returns-clause-members
returns-clause-members c = others_spelled _ _ (grind (arith, common_steps))
