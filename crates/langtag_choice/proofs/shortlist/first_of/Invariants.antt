use Rattle.std.proofs.Common.{◌<◌, ℕ, None, length, slice_index_or}
use Rattle.langtag_choice.specs.Candidates.{Keeps}
use Rattle.langtag_choice.proofs.shortlist.first_of.Given as goal

abbrev pub invariant-loop-place : goal.invariant-loop-place
invariant-loop-place l = record {
  inside : l.first < length l.best;
  first : (k : ℕ) → k < l.place → Keeps (slice_index_or l.best k None) (slice_index_or l.best l.first None);
}
