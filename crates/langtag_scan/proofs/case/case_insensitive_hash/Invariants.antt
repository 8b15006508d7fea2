use Rattle.std.proofs.Common.{◌≡◌, take, fold, [], ◌∷◌}
use Rattle.langtag_scan.specs.Case.{fold_byte}
use Rattle.langtag_scan.proofs.case.case_insensitive_hash.Given as goal

abbrev pub invariant-loop-byte : goal.invariant-loop-byte
invariant-loop-byte g l =
    l.hasher ≡ fold (λ s b. g.H.Hasher.write s (fold_byte b ∷ [])) l.initial.hasher (take l.byte-index l.bytes)
