use Rattle.std.proofs.Common.{◌≡◌, ◌+◌, ◌*◌, ◌%◌, ◌^◌, take, fold}
use Rattle.langtag_tests.proofs.scan.CallsHasher.write.Given as goal

abbrev pub invariant-loop-byte : goal.invariant-loop-byte
invariant-loop-byte l = l.self.0 ≡ fold (λ kept b. ((kept * 256) % 2 ^ 128 + b) % 2 ^ 128) l.initial.self.0 (take l.byte-index l.bytes)
