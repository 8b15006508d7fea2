use Rattle.langtag_locale.proofs.KeptParts.{parts_kept}
use Rattle.langtag_locale.proofs.laws.parts_are_kept.Goals as goal

pub returns : goal.returns
returns c = record { parts = parts_kept }
