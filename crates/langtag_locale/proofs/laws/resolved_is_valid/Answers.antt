use Rattle.langtag_locale.proofs.ResolvedTags.{is_valid}
use Rattle.langtag_locale.proofs.laws.resolved_is_valid.Goals as goal

pub returns : goal.returns
returns c = record { valid = is_valid }
