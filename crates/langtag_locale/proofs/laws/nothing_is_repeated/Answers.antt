use Rattle.langtag_locale.proofs.ResolvedTags.{nothing_repeated}
use Rattle.langtag_locale.proofs.laws.nothing_is_repeated.Goals as goal

pub returns : goal.returns
returns c = record { repeats = nothing_repeated }
