use Rattle.langtag_scan.proofs.Prelude.{◌≡◌, subst, true, length, rules, tests, arith, YieldsList-from_slice_split, YieldsList-at, YieldsList-turn, YieldsList-end, take_all}
use Rattle.langtag_match.specs.AcceptLanguage.{are_good}
use Rattle.langtag_range.specs.Element.{is_comma, items}
use Rattle.langtag_c.proofs.LookUps.{good-next, is_bad_at, width-next, width_fits}
use Rattle.langtag_c.proofs.header_look_up.first_bad.Goals as goal

pub returns-in-Some-bad_part : goal.returns-in-Some-bad_part
returns-in-Some-bad_part c =
    let (below, here) = YieldsList-turn
    (YieldsList-at {s = c.into_iter-item-iterator.result} (cc) (YieldsList-from_slice_split {s = c.split-item-items.result} _ is_comma c.args.header.now c.split-item-items.ensures.rest c.split-item-items.ensures.done c.split-item-items.ensures.closure (λ x r q k. search (rules, tests))))
    c.loop-item.yielded _ c.loop-item.yielded_by _ _ c.in-Some.item c.in-Some.is c.next.ensures.steps in
    is_bad_at c.args.header.now c.in-Some.item.now (length c.loop-item.yielded) below here c.loop-item.start c.in-Some-bad_part.part c.loop-item.invariant.begins c.loop-item.invariant.good c.in-Some-bad_part.ensures.0 c.in-Some-bad_part.ensures.1
    c.trimmed_place-first.result.0 c.trimmed_place-first.result.1 c.trimmed_place-first.ensures.ordered c.trimmed_place-first.ensures.within c.trimmed_place-first.ensures.space c.trimmed_place-first.ensures.trimmed

pub overflow_add-span : goal.overflow_add-span
overflow_add-span c =
    let (below, here) = YieldsList-turn
    (YieldsList-at {s = c.into_iter-item-iterator.result} (cc) (YieldsList-from_slice_split {s = c.split-item-items.result} _ is_comma c.args.header.now c.split-item-items.ensures.rest c.split-item-items.ensures.done c.split-item-items.ensures.closure (λ x r q k. search (rules, tests))))
    c.loop-item.yielded _ c.loop-item.yielded_by _ _ c.in-Some.item c.in-Some.is c.next.ensures.steps in
    let fits = width_fits c.args.header.now c.in-Some.item.now (length c.loop-item.yielded) below here in
    omega (arith, c.loop-item.invariant.begins, fits, c.trimmed_place-first.ensures.ordered, c.trimmed_place-first.ensures.within)

pub overflow_add-start-in-loop-item : goal.overflow_add-start-in-loop-item
overflow_add-start-in-loop-item c =
    let (below, here) = YieldsList-turn
    (YieldsList-at {s = c.into_iter-item-iterator.result} (cc) (YieldsList-from_slice_split {s = c.split-item-items.result} _ is_comma c.args.header.now c.split-item-items.ensures.rest c.split-item-items.ensures.done c.split-item-items.ensures.closure (λ x r q k. search (rules, tests))))
    c.loop-item.yielded _ c.loop-item.yielded_by _ _ c.in-Some.item c.in-Some.is c.next.ensures.steps in
    let fits = width_fits c.args.header.now c.in-Some.item.now (length c.loop-item.yielded) below here in
    omega (arith, c.loop-item.invariant.begins, fits)

pub loop-item-preserved : goal.loop-item-preserved
loop-item-preserved c =
    let (below, here) = YieldsList-turn
    (YieldsList-at {s = c.into_iter-item-iterator.result} (cc) (YieldsList-from_slice_split {s = c.split-item-items.result} _ is_comma c.args.header.now c.split-item-items.ensures.rest c.split-item-items.ensures.done c.split-item-items.ensures.closure (λ x r q k. search (rules, tests))))
    c.loop-item.yielded _ c.loop-item.yielded_by _ _ c.in-Some.item c.in-Some.is c.next.ensures.steps in
    record {
      begins = omega (arith, c.loop-item.invariant.begins, width-next (items c.args.header.now) c.loop-item.yielded c.in-Some.item c.in-Some.item.now below here);
      good = good-next (items c.args.header.now) c.loop-item.yielded c.in-Some.item c.in-Some.item.now below here c.loop-item.invariant.good c.in_default.ensures;
    }

pub returns : goal.returns
returns c =
    let (all, count) = YieldsList-end
    (YieldsList-at {s = c.into_iter-item-iterator.result} (cc) (YieldsList-from_slice_split {s = c.split-item-items.result} _ is_comma c.args.header.now c.split-item-items.ensures.rest c.split-item-items.ensures.done c.split-item-items.ensures.closure (λ x r q k. search (rules, tests))))
    c.loop-item.yielded _ c.loop-item.yielded_by _ _ c.in-None.is c.next.ensures.steps in
    let whole = take_all (length c.loop-item.yielded) (items c.args.header.now) (omega (arith, count)) in
    subst (λ t. are_good t ≡ true) whole c.loop-item.invariant.good
