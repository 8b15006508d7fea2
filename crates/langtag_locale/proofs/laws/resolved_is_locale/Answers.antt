use Rattle.langtag_locale.proofs.ResolvedTags.{is_locale}
use Rattle.langtag_locale.proofs.laws.resolved_is_locale.Goals as goal

pub returns : goal.returns
returns c = record { locale = is_locale }
