use Rattle.langtag_locale.proofs.ResolvedTags.{is_tag}
use Rattle.langtag_locale.proofs.laws.resolved_is_tag.Goals as goal

pub returns : goal.returns
returns c = record { tag = is_tag }
