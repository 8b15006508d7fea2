use Rattle.langtag_scan.proofs.Prelude.{take, flat_map}
use Rattle.langtag_text.specs.Output.{HasText}
use Rattle.langtag_text.proofs.write.put_pieces.Given as goal

-- the pieces before this one were put
abbrev pub invariant-loop-piece : goal.invariant-loop-piece
invariant-loop-piece l = HasText l.initial.out.buffer l.out (flat_map (λ piece. piece.now) (take l.piece-index l.pieces))
