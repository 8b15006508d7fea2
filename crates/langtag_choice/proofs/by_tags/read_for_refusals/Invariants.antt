use Rattle.std.proofs.Common.{◌≡◌, ◌∷◌, ◌+◌, ◌≤◌, ◌<◌, ℕ, List, Some, true, false, get_or, slice_get, length}
use Rattle.langtag_range.specs.Definitions.{Element, listed_element}
use Rattle.langtag_choice.specs.Refusals.{IsLongestBefore, nothing_read}
use Rattle.langtag_choice.proofs.by_tags.read_for_refusals.Given as goal

abbrev pub invariant-loop-offset : goal.invariant-loop-offset
invariant-loop-offset g l = record {
  long : length l.longest ≡ 64;
  after : (k : ℕ) → l.offset ≤ k → get_or l.longest k nothing_read ≡ get_or l.fn.longest k nothing_read;
  before : (k : ℕ) (elements others : List Element) (tag : List ℕ) → k < l.offset → get_or l.free k false ≡ true → slice_get (g.T.TagList.texts l.tags) (l.start + k) ≡ Some (Some tag) →
      IsLongestBefore elements (listed_element l.range ∷ others) tag (get_or l.fn.longest k nothing_read) → IsLongestBefore elements others tag (get_or l.longest k nothing_read);
}
