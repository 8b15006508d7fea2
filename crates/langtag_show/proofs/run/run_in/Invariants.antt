use Rattle.std.proofs.Common.{◌≡◌, ℕ, List, []}
use Rattle.std.specs.Io.KnownBytes.{Consumes}
use Rattle.langtag_show.specs.Lines.{complete_lines, rest_of}
use Rattle.langtag_show.specs.Report.{AreWritten}
use Rattle.langtag_show.proofs.run.run_in.Given as goal

abbrev pub invariant-loop : goal.invariant-loop
invariant-loop g l = (seen : List ℕ) × Consumes (g.R.Read.remaining l.initial.input) (g.R.Read.remaining l.input) seen
    × (g.L.GatheredLine.bytes l.line ≡ rest_of seen)
    × (l.page ≡ [])
    × AreWritten (g.W.Write.contents l.initial.output) (g.W.Write.contents l.output) (complete_lines seen)
