use Rattle.langtag_c.proofs.ChoiceLaws.{are_best}
use Rattle.langtag_c.proofs.suitable.langtag_suitable_for_ranges.Goals as goal

pub returns-clause-suitable : goal.returns-clause-suitable
returns-clause-suitable c = are_best _ _ _ _ _ _ c.write_and_count.ensures.number c.write_and_count.ensures.suitable
