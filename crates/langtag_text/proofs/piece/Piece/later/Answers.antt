use Rattle.langtag_scan.proofs.Prelude.{arith, common_steps}
use Rattle.langtag_text.proofs.PieceLaws.{piece-single, piece-two, piece-four, piece-other}
use Rattle.langtag_text.proofs.piece.Piece.later.Goals as goal

pub returns-in-1 : goal.returns-in-1
returns-in-1 c = let end = c.segment_end.ensures in piece-single c.args.text.now _ end.within end.first end.hyphen c.in-1.is

pub returns-in-2 : goal.returns-in-2
returns-in-2 c = let end = c.segment_end.ensures in piece-two c.args.text.now _ end.within end.first end.hyphen c.in-2.is

pub returns-in-4 : goal.returns-in-4
returns-in-4 c = let end = c.segment_end.ensures in piece-four c.args.text.now _ end.within end.first end.hyphen c.in-4.is

pub returns-in_default : goal.returns-in_default
returns-in_default c = grind (arith, common_steps, piece-other c.args.text.now)
