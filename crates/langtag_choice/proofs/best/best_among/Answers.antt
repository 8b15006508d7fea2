use Rattle.langtag_choice.proofs.ChoiceLaws.{equal_answered}
use Rattle.langtag_choice.proofs.best.best_among.Goals as goal

pub returns-clause-equal : goal.returns-clause-equal
returns-clause-equal g c = equal_answered _ _ _ c.best_index.ensures
