use Rattle.std.proofs.Common.{◌≡◌, ◌<◌, ℕ, Some, None, slice_index_or}
use Rattle.langtag_choice.specs.declared.candidate.Candidate.{Candidate}
use Rattle.langtag_choice.proofs.shortlist.place_of.Given as goal

abbrev pub invariant-loop-place : goal.invariant-loop-place
invariant-loop-place l = (k : ℕ) (c : Candidate) → k < l.place → slice_index_or l.best k None ≡ Some c → (c.index ≡ l.index → ⊥)
