use Rattle.std.proofs.Common.{◌≡◌, ◌+◌, length}
use Rattle.langtag_range.specs.Listed.{basic_text}
use Rattle.langtag_cldr.specs.Ranges.{BeginsPlain}
use Rattle.langtag_cldr.proofs.read_text.basic_len.Given as goal

-- the bytes that were counted, and those that are left
abbrev pub invariant-loop-left : goal.invariant-loop-left
invariant-loop-left l = record {
  all : l.len + length (basic_text l.left) ≡ length (basic_text l.range);
  plain : BeginsPlain l.left;
}

abbrev pub decreases-loop-left : goal.decreases-loop-left
decreases-loop-left l = length l.left
