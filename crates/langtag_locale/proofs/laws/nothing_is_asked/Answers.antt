use Rattle.langtag_locale.proofs.ServedRange.{nothing_changes}
use Rattle.langtag_locale.proofs.laws.nothing_is_asked.Goals as goal

pub returns : goal.returns
returns c = record { unchanged = nothing_changes }
