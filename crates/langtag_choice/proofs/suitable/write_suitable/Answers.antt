use Rattle.langtag_choice.proofs.SuitableTags.{all_serving, none_left_out}
use Rattle.langtag_choice.proofs.suitable.write_suitable.Goals as goal

pub returns-clause-serving : goal.returns-clause-serving
returns-clause-serving g c = all_serving _ _ _ _ c.choose_in_turn.ensures.suitable

pub returns-clause-none_left : goal.returns-clause-none_left
returns-clause-none_left g c = none_left_out _ _ _ _ c.choose_in_turn.ensures.suitable
