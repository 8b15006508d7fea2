use Rattle.langtag_text.proofs.PieceLaws.{first-end}
use Rattle.langtag_text.proofs.recommended_case.capitalise_pieces.Goals as goal

pub loop-end-init : goal.loop-end-init
loop-end-init c = first-end _ _ c.requires c.first-end.ensures.begins
