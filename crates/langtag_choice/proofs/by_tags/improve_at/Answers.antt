use Rattle.std.proofs.Common.{rules}
use Rattle.langtag_range.specs.Definitions.{listed_element}
use Rattle.langtag_choice.specs.Found.{is_flagged}
use Rattle.langtag_choice.proofs.FoundLaws.{all_ranges, one_more_range, rest_done, rest_here, rest_next}
use Rattle.langtag_choice.proofs.by_tags.improve_at.Goals as goal

pub loop-wanted-preserved : goal.loop-wanted-preserved
loop-wanted-preserved g c = record {
  few = search rules;
  inside = c.improve_for_range-worst.ensures.inside;
  last = c.improve_for_range-worst.ensures.last;
  rest = rest_next (g.R.RangeList.elements c.args.ranges) (g.R.RangeList.elements c.loop-wanted.left) _ (listed_element c.in-Some.wanted) c.loop-wanted.place (search rules) c.loop-wanted.invariant.rest;
  tries = one_more_range _ _ _ _ _ (is_flagged c.args.start c.args.free.now) _ _ _ _ c.loop-wanted.invariant.tries (c.improve_for_range-worst.ensures.tries _ (rest_here _ _ _ _ _ c.in-Some.ensures.first c.loop-wanted.invariant.rest));
}

pub returns : goal.returns
returns g c =
    all_ranges _ _ _ _ _ (is_flagged c.args.start c.args.free.now) _ _ _ (rest_done _ _ _ c.in_default.ensures.first c.loop-wanted.invariant.rest) c.loop-wanted.invariant.tries
