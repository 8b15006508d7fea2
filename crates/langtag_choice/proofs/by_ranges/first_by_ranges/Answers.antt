use Rattle.std.proofs.Common.{rules, true}
use Rattle.langtag_choice.proofs.FoundLaws.{all_ranges, one_more_range, rest_done, rest_here, rest_next}
use Rattle.langtag_range.specs.Listed.{listed_element}
use Rattle.langtag_choice.proofs.by_ranges.first_by_ranges.Goals as goal

pub loop-wanted-preserved : goal.loop-wanted-preserved
loop-wanted-preserved g c = record {
  few = search rules;
  rest = rest_next (g.R.RangeList.elements c.args.ranges) (g.R.RangeList.elements c.loop-wanted.left) _ (listed_element c.in-Some.wanted) c.loop-wanted.place (search rules) c.loop-wanted.invariant.rest;
  zero = search rules;
  tries = one_more_range _ _ _ _ _ (λ index. true) _ _ _ _ c.loop-wanted.invariant.tries (c.improve_for_range.ensures _ (rest_here _ _ _ _ _ c.in-Some.ensures.first c.loop-wanted.invariant.rest));
}

pub returns-clause-first : goal.returns-clause-first
returns-clause-first g c =
    all_ranges _ _ _ _ _ (λ index. true) _ _ _ (rest_done _ _ _ c.in_default.ensures.first c.loop-wanted.invariant.rest) c.loop-wanted.invariant.tries
