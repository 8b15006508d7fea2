use Rattle.std.proofs.Common.{◌≡◌, length}
use Rattle.langtag_c.specs.Spanned.{written_at}
use Rattle.langtag_c.proofs.spanned_ranges.SpannedRangesRangeList.split_range.Given as goal

abbrev pub invariant-loop-first : goal.invariant-loop-first
invariant-loop-first l = written_at l.self.text.now l.left ≡ written_at l.self.text.now l.self.spans.now

abbrev pub decreases-loop-first : goal.decreases-loop-first
decreases-loop-first l = length l.left
