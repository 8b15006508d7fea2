use Rattle.std.proofs.Common.{◌-◌, length}
use Rattle.langtag_text.proofs.PieceLaws.{IsAtEnd}
use Rattle.langtag_text.proofs.recommended_case.capitalise_pieces.Given as goal

-- the text is in its recommended case up to the end of a piece, and small from there on
abbrev pub invariant-loop-end : goal.invariant-loop-end
invariant-loop-end l = IsAtEnd l.fn.text l.text l.end

abbrev pub decreases-loop-end : goal.decreases-loop-end
decreases-loop-end l = length l.text - l.end
