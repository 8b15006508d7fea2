use Rattle.std.proofs.Common.{refl}
use Rattle.langtag_cldr.proofs.RowLaws.{replacements_listed}
use Rattle.langtag_cldr.proofs.suggestion.replacement_keys.Goals as goal

pub returns : goal.returns
returns c = record { numbers = replacements_listed.numbers; climbs = refl; count = refl }
