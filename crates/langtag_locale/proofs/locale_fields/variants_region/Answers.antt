use Rattle.std.proofs.lemmas.Bool.Decides.{nat_tests}
use Rattle.std.proofs.Common.{arith}
use Rattle.langtag_locale.proofs.LocaleTables.{all_good}
use Rattle.langtag_locale.proofs.locale_fields.variants_region.Goals as goal

pub loop-rows-init : goal.loop-rows-init
loop-rows-init c = grind (arith, nat_tests, c.variant_regions-rows.ensures, all_good.regions)
