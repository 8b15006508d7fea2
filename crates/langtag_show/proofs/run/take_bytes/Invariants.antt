use Rattle.std.proofs.Common.{◌≡◌, ℕ, List, ◌++◌, length}
use Rattle.std.specs.Io.KnownBytes.{append_known}
use Rattle.langtag_show.specs.Lines.{complete_lines, rest_of}
use Rattle.langtag_show.specs.Report.{AreWritten}
use Rattle.langtag_show.proofs.run.take_bytes.Given as goal

-- the bytes before those that are left
abbrev pub invariant-loop-len : goal.invariant-loop-len
invariant-loop-len g l = (taken : List ℕ) × (taken ++ l.left ≡ l.bytes)
    × (g.L.GatheredLine.bytes l.line ≡ rest_of (g.L.GatheredLine.bytes l.initial.line ++ taken))
    × AreWritten (g.W.Write.contents l.initial.output) (append_known (g.W.Write.contents l.output) l.page) (complete_lines (g.L.GatheredLine.bytes l.initial.line ++ taken))

abbrev pub decreases-loop-len : goal.decreases-loop-len
decreases-loop-len g l = length l.left
