use Rattle.langtag_scan.proofs.Prelude.{◌≡◌, ◌<◌, take, ◌^◌}
use Rattle.langtag_scan.specs.Case.{folded_number}
use Rattle.langtag_scan.proofs.case.folded_number.Given as goal

-- the number is that of the bytes so far, and has no more digits than they are
abbrev pub invariant-loop-byte : goal.invariant-loop-byte
invariant-loop-byte l = record { so_far : l.number ≡ folded_number (take l.byte-index l.bytes); digits : l.number < 256 ^ l.byte-index }
