use Rattle.langtag_scan.proofs.Prelude.{◌+◌, arith, length, refl, rules, tests, ap, YieldsList-from_slice_split, YieldsList-at, YieldsList-turn, YieldsList-end, take_all}
use Rattle.langtag_range.specs.Definitions.{is_comma, items, written_element}
use Rattle.langtag_c.specs.RangePlaces.{range_count}
use Rattle.langtag_c.proofs.LookUps.{is_range_at, no_more, one_more, spaces_within, width-next, width_fits}
use Rattle.langtag_c.proofs.range_place.range_at.Goals.{in-Some-split_wanted+else-left-eq0, in_default}
use Rattle.langtag_c.proofs.range_place.range_at.Goals as goal

pub loop-item-init : goal.loop-item-init
loop-item-init c = record { begins = refl; count = omega arith }

pub overflow_add-result : goal.overflow_add-result
overflow_add-result c =
    let (below, here) = YieldsList-turn
    (YieldsList-at {s = c.into_iter-item-iterator.result} (cc) (YieldsList-from_slice_split {s = c.split-item-items.result} _ is_comma c.args.header.now c.split-item-items.ensures.rest c.split-item-items.ensures.done c.split-item-items.ensures.closure (λ x r q k. search (rules, tests))))
    c.loop-item.yielded _ c.loop-item.yielded_by _ _ c.in-Some.item c.in-Some.is c.next.ensures.steps in
    omega (arith, c.loop-item.invariant.begins, width_fits c.args.header.now c.in-Some.item.now (length c.loop-item.yielded) below here, c.spaces_before.ensures, spaces_within c.in-Some.item.now)

pub returns-then-left-eq0-clause-some : goal.returns-then-left-eq0-clause-some
returns-then-left-eq0-clause-some c =
    let (below, here) = YieldsList-turn
    (YieldsList-at {s = c.into_iter-item-iterator.result} (cc) (YieldsList-from_slice_split {s = c.split-item-items.result} _ is_comma c.args.header.now c.split-item-items.ensures.rest c.split-item-items.ensures.done c.split-item-items.ensures.closure (λ x r q k. search (rules, tests))))
    c.loop-item.yielded _ c.loop-item.yielded_by _ _ c.in-Some.item c.in-Some.is c.next.ensures.steps in
    is_range_at c.args.header.now c.in-Some.item.now (length c.loop-item.yielded) below here c.loop-item.start c.args.place _ (written_element c.in-Some-split_wanted.wanted) _ c.loop-item.invariant.begins
    (omega (arith, c.loop-item.invariant.count, c.if-left-eq0.true)) c.in-Some-split_wanted.ensures.first
    (ap (λ n. c.loop-item.start + n) c.spaces_before.ensures) refl

pub overflow_add-start-in-loop-item : goal.overflow_add-start-in-loop-item
overflow_add-start-in-loop-item c =
    let (below, here) = YieldsList-turn
    (YieldsList-at {s = c.into_iter-item-iterator.result} (cc) (YieldsList-from_slice_split {s = c.split-item-items.result} _ is_comma c.args.header.now c.split-item-items.ensures.rest c.split-item-items.ensures.done c.split-item-items.ensures.closure (λ x r q k. search (rules, tests))))
    c.loop-item.yielded _ c.loop-item.yielded_by _ _ c.in-Some.item c.in-Some.is c.next.ensures.steps in
    omega (arith, c.loop-item.invariant.begins, width_fits c.args.header.now c.in-Some.item.now (length c.loop-item.yielded) below here)

pub loop-item-preserved : goal.loop-item-preserved
loop-item-preserved c =
    let (below, here) = YieldsList-turn
    (YieldsList-at {s = c.into_iter-item-iterator.result} (cc) (YieldsList-from_slice_split {s = c.split-item-items.result} _ is_comma c.args.header.now c.split-item-items.ensures.rest c.split-item-items.ensures.done c.split-item-items.ensures.closure (λ x r q k. search (rules, tests))))
    c.loop-item.yielded _ c.loop-item.yielded_by _ _ c.in-Some.item c.in-Some.is c.next.ensures.steps in
    record {
      begins = omega (arith, c.loop-item.invariant.begins, width-next (items c.args.header.now) c.loop-item.yielded c.in-Some.item c.in-Some.item.now below here);
      count = elim c.match-split_wanted.branch [
        | in-Some-split_wanted+else-left-eq0 w ↦
            omega (arith, c.loop-item.invariant.count, w.left-is, w.if-left-eq0.false, one_more c.args.header.now c.in-Some.item.now (length c.loop-item.yielded) below here c.loop-item.yielded c.in-Some.item refl _ _ w.in-Some-split_wanted.ensures.first)
        | in_default w ↦
            omega (arith, c.loop-item.invariant.count, w.left-is, no_more c.args.header.now c.in-Some.item.now (length c.loop-item.yielded) below here c.loop-item.yielded c.in-Some.item refl w.in_default.ensures.first)
      ];
    }

pub returns-clause-none : goal.returns-clause-none
returns-clause-none c = λ none.
    let (all, count) = YieldsList-end
    (YieldsList-at {s = c.into_iter-item-iterator.result} (cc) (YieldsList-from_slice_split {s = c.split-item-items.result} _ is_comma c.args.header.now c.split-item-items.ensures.rest c.split-item-items.ensures.done c.split-item-items.ensures.closure (λ x r q k. search (rules, tests))))
    c.loop-item.yielded _ c.loop-item.yielded_by _ _ c.in-None.is c.next.ensures.steps in
    let whole = take_all (length c.loop-item.yielded) (items c.args.header.now) (omega (arith, count)) in
    omega (arith, c.loop-item.invariant.count, ap range_count whole)
