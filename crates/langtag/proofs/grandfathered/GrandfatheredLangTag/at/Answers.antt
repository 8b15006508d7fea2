use Rattle.langtag.proofs.RegisteredLaws.{index_listed}
use Rattle.langtag.proofs.grandfathered.GrandfatheredLangTag.at.Goals as goal

pub returns : goal.returns
returns c = index_listed c.args.index _ c.requires
