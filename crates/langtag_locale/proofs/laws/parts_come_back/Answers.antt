use Rattle.langtag_locale.proofs.ServedRange.{parts_come_back}
use Rattle.langtag_locale.proofs.laws.parts_come_back.Goals as goal

pub returns : goal.returns
returns c = record { comes_back = parts_come_back }
