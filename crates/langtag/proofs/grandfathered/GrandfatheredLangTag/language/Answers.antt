use Rattle.langtag_scan.proofs.Prelude.{arith, common_steps}
use Rattle.langtag_scan.specs.Grandfathered.{grandfathered_tags}
use Rattle.langtag.proofs.RegisteredLaws.{language_registered, registered_primary}
use Rattle.langtag.proofs.grandfathered.GrandfatheredLangTag.language.Goals as goal

pub from_checked-requires : goal.from_checked-requires
unfolding grandfathered_tags
from_checked-requires c = grind (arith, common_steps, language_registered c.args.self.now)

pub returns-in_err-language-clause-primary : goal.returns-in_err-language-clause-primary
returns-in_err-language-clause-primary c = registered_primary c.args.self.now

pub returns-clause-primary : goal.returns-clause-primary
returns-clause-primary c = registered_primary c.args.self.now
