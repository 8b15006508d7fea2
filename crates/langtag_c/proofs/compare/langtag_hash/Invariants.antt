use Rattle.std.proofs.Common.{◌≡◌, take}
use Rattle.langtag_c.specs.Answers.{fnv}
use Rattle.langtag_c.proofs.compare.langtag_hash.Given as goal

abbrev pub invariant-loop-byte : goal.invariant-loop-byte
invariant-loop-byte l = l.hash ≡ fnv l.fn.state (take l.byte-index l.bytes)
