use Rattle.langtag_scan.proofs.Prelude.{◌+◌, ◌==◌, ◌&&◌, true, nat_lt, arith, eqb_tells, nat_tests, rules}
use Rattle.std.specs.Bool.{nat_le}
use Rattle.langtag_range.specs.Listed.{listed_element}
use Rattle.langtag_choice.proofs.FoundLaws.{one_more_entry}
use Rattle.langtag_choice.proofs.by_ranges.improve_for_range.Goals as goal

pub loop-index-preserved : goal.loop-index-preserved
loop-index-preserved g c =
    let tags = g.T.TagList.texts c.args.tags.now in
    let from = c.loop-index.from in
    let index = c.in-Some-next_near.index in
    record {
      within = search rules;
      tries = one_more_entry _ _ _ tags c.in-Some.wish (listed_element c.args.wanted) c.args.place (λ i. nat_lt i index) (λ i. i == index) (λ i. nat_lt i (index + 1)) _ _ _ c.in-Some.ensures.0 c.in-Some.ensures.1
          (one_more_entry _ _ _ tags c.in-Some.wish (listed_element c.args.wanted) c.args.place (λ i. nat_lt i from) (λ i. nat_le from i && nat_lt i index) (λ i. nat_lt i index) _ _ _ c.in-Some.ensures.0 c.in-Some.ensures.1
          c.loop-index.invariant.tries (c.in-Some-next_near.ensures.3 c.loop-index.found) (λ i. grind (arith, nat_tests)))
          c.improve_at.ensures (λ i. grind (arith, nat_tests, eqb_tells));
    }

pub returns : goal.returns
returns g c =
    one_more_entry _ _ _ (g.T.TagList.texts c.args.tags.now) c.in-Some.wish (listed_element c.args.wanted) c.args.place (λ i. nat_lt i c.loop-index.from) (λ i. nat_le c.loop-index.from i) (λ i. true) _ _ _
    c.in-Some.ensures.0 c.in-Some.ensures.1 c.loop-index.invariant.tries (c.in_default-next_near.ensures c.loop-index.found) (λ i. grind (arith, nat_tests))
