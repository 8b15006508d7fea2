use Rattle.langtag_scan.proofs.Prelude.{arith, common_steps}
use Rattle.langtag.specs.Registered.{IsGrandfathered}
use Rattle.langtag.proofs.OrderLaws.{tags_compare}
use Rattle.langtag.proofs.RegisteredLaws.{first_alike_found, grandfathered_tag, listed, none_alike, one_index}
use Rattle.langtag.proofs.grandfathered.GrandfatheredLangTag.new.Goals as goal

pub returns-in-Some : goal.returns-in-Some
unfolding IsGrandfathered
returns-in-Some c = grind (arith, common_steps, first_alike_found, one_index, grandfathered_tag, tags_compare, listed)

pub returns-in-None : goal.returns-in-None
returns-in-None c = grind (arith, common_steps, none_alike, one_index, grandfathered_tag, tags_compare, listed)
