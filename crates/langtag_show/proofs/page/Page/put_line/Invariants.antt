use Rattle.std.proofs.Common.{take}
use Rattle.std.specs.Io.KnownBytes.{Appends, append_known}
use Rattle.std.specs.List.{flat_map}
use Rattle.langtag_show.proofs.page.Page.put_line.Given as goal

-- the page and the writer have taken the pieces before this one
abbrev pub invariant-loop-piece : goal.invariant-loop-piece
invariant-loop-piece g l =
    Appends (append_known (g.W.Write.contents l.initial.output) l.initial.self) (append_known (g.W.Write.contents l.output) l.self) (flat_map (λ piece. piece.now) (take l.piece-index l.pieces))
