use Rattle.std.proofs.Common.{◌≡◌, ℕ, ◌<◌, ◌≤◌, ◌==◌, get_or, cond}
use Rattle.langtag_posix.proofs.platform_names.hyphenate.Given as goal

abbrev pub invariant-loop-byte : goal.invariant-loop-byte
invariant-loop-byte l = record {
  done : (k : ℕ) → k < l.byte-index → get_or l.bytes k 0 ≡ cond (get_or l.initial.bytes k 0 == l.mark) 45 (get_or l.initial.bytes k 0);
  left : (k : ℕ) → l.byte-index ≤ k → get_or l.bytes k 0 ≡ get_or l.initial.bytes k 0;
}
