use Rattle.std.proofs.Common.{◌≡◌, ◌+◌, ◌-◌, ◌≤◌, take, max}
use Rattle.langtag_scan.specs.Grammar.{position_of, Stands, IsViable}
use Rattle.langtag_scan.proofs.PositionLaws.{Tracks}
use Rattle.langtag_scan.proofs.recogniser.read.Given as goal

abbrev pub invariant-loop-index : goal.invariant-loop-index
invariant-loop-index g l =
    let q = take l.index (g.S.ByteSource.bytes l.fn.source) in
    record {
      bytes : g.S.ByteSource.bytes l.source ≡ g.S.ByteSource.bytes l.fn.source;
      reads : g.S.ByteSource.reads l.source ≡ g.S.ByteSource.reads l.fn.source + l.index;
      reach : g.S.ByteSource.reach l.source ≡ max (g.S.ByteSource.reach l.fn.source) l.index;
      within : l.index ≤ l.len;
      stands : Stands q l.state.number;
      tracks : Tracks q l.marks.places (position_of q).begun;
      viable : IsViable q;
    }

abbrev pub decreases-loop-index : goal.decreases-loop-index
decreases-loop-index g l = l.len - l.index
