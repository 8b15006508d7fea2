use Rattle.std.proofs.Common.{◌≡◌, length}
use Rattle.langtag_range.specs.Listed.{basic_text}
use Rattle.langtag_cldr.specs.Ranges.{after_common, BeginsPlain}
use Rattle.langtag_cldr.proofs.read_text.after_common.Given as goal

abbrev pub invariant-loop-left : goal.invariant-loop-left
invariant-loop-left l = record {
  left : after_common (basic_text l.left) l.rest ≡ after_common (basic_text l.range) l.text;
  plain : BeginsPlain l.left;
}

abbrev pub decreases-loop-left : goal.decreases-loop-left
decreases-loop-left l = length l.left
