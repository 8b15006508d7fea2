use Rattle.std.proofs.Common.{◌≤◌, ◌-◌, length, nat_lt}
use Rattle.langtag_range.specs.Listed.{listed_element}
use Rattle.langtag_choice.specs.Found.{TriesRange}
use Rattle.langtag_choice.proofs.by_ranges.improve_for_range.Given as goal

abbrev pub invariant-loop-index : goal.invariant-loop-index
invariant-loop-index g l = record {
  within : l.from ≤ length (g.T.TagList.texts l.tags);
  tries : TriesRange (listed_element l.wanted) l.place (g.T.TagList.texts l.tags) (λ index. nat_lt index l.from) l.fn.found l.found;
}

abbrev pub decreases-loop-index : goal.decreases-loop-index
decreases-loop-index g l = length (g.T.TagList.texts l.tags) - l.from
