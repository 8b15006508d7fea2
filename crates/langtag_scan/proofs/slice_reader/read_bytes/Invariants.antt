use Rattle.std.proofs.Common.{◌≡◌, ◌-◌, ◌≤◌, take, length}
use Rattle.langtag_scan.specs.Grammar.{position_of, Stands, IsViable}
use Rattle.langtag_scan.proofs.PositionLaws.{Tracks}
use Rattle.langtag_scan.proofs.slice_reader.read_bytes.Given as goal

abbrev pub invariant-loop-index : goal.invariant-loop-index
invariant-loop-index l =
    let q = take l.index l.bytes in
    record {
      within : l.index ≤ length l.bytes;
      stands : Stands q l.state.number;
      tracks : Tracks q l.marks.places (position_of q).begun;
      viable : IsViable q;
    }

abbrev pub decreases-loop-index : goal.decreases-loop-index
decreases-loop-index l = l.len - l.index
