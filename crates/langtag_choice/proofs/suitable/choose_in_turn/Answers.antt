use Rattle.langtag_scan.proofs.Prelude.{length, arith, rules, ◌∙◌}
use Rattle.langtag_choice.proofs.SuitableTags.{all_chosen, rest_later}
use Rattle.langtag_choice.proofs.suitable.choose_in_turn.Goals as goal

pub loop-count-preserved : goal.loop-count-preserved
loop-count-preserved g c = record {
  within = search rules;
  chosen =
      rw (← c.loop-count.auto.found)
      (c.choose_next-next.ensures.goes_on (rw c.loop-count.auto.found c.loop-count.invariant.chosen));
  rest = c.choose_next-next.ensures.rest ∙ rest_later c.loop-count.found c.args.found.now c.loop-count.count c.choose_next-next.result.0 c.loop-count.invariant.rest c.choose_next-next.ensures.ahead;
}

pub returns-then-is_last-clause-suitable : goal.returns-then-is_last-clause-suitable
returns-then-is_last-clause-suitable g c =
    all_chosen (g.R.RangeList.elements c.args.ranges) (g.T.TagList.texts c.args.tags.now) (length c.args.found.now) c.choose_next-next.result.0 c.choose_next-next.new.found (search rules) (search rules)
    (λ below. c.choose_next-next.ensures.last c.if-is_last.true (omega (arith, below, c.loop-count.auto.found)))
    (rw (← c.loop-count.auto.found)
    (c.choose_next-next.ensures.goes_on (rw c.loop-count.auto.found c.loop-count.invariant.chosen)))

pub returns-then-is_last-clause-rest : goal.returns-then-is_last-clause-rest
returns-then-is_last-clause-rest g c =
    c.choose_next-next.ensures.rest ∙ rest_later c.loop-count.found c.args.found.now c.loop-count.count c.choose_next-next.result.0 c.loop-count.invariant.rest c.choose_next-next.ensures.ahead

pub returns-clause-suitable : goal.returns-clause-suitable
returns-clause-suitable g c =
    all_chosen (g.R.RangeList.elements c.args.ranges) (g.T.TagList.texts c.args.tags.now) (length c.args.found.now) c.loop-count.count c.loop-count.found c.loop-count.auto.found
    (omega (arith, c.loop-count.invariant.within, c.loop-count.auto.found)) (λ below. absurd (omega (arith, below, c.loop-count-test.false, c.loop-count.auto.found))) c.loop-count.invariant.chosen
