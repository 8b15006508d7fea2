use Rattle.std.proofs.Common.{◌≡◌, ◌≤◌, IsTrue, length, filter, not, take}
use Rattle.langtag_range.specs.Definitions.{before_hyphens, ends_in_single, is_language_range}
use Rattle.langtag_range.proofs.fallback.shortened_len.Given as goal

-- what was taken away leaves no other fallbacks
abbrev pub invariant-loop-len : goal.invariant-loop-len
invariant-loop-len l = record {
  few : length l.left ≤ length l.range;
  front : l.left ≡ take (length l.left) l.range;
  in_class : IsTrue (is_language_range l.range) → IsTrue (is_language_range l.left);
  same : filter (λ text. not (ends_in_single text)) (before_hyphens l.left) ≡ filter (λ text. not (ends_in_single text)) (before_hyphens l.range);
}

abbrev pub decreases-loop-len : goal.decreases-loop-len
decreases-loop-len l = length l.left
