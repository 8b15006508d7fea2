use Rattle.langtag_scan.proofs.Prelude.{◌++◌, length, rules, tests, subst, arith, ap, YieldsList-from_slice_split, YieldsList-at, YieldsList-turn, YieldsList-end, slice_split, flat_map, take_all}
use Rattle.langtag_text.specs.Output.{HasText}
use Rattle.langtag_posix.specs.KeywordNames.{is_semicolon, keyword_text}
use Rattle.langtag_posix.proofs.KeywordNameLaws.{appended_next}
use Rattle.langtag_posix.proofs.keyword_names.push_each.Goals as goal

pub loop-keyword-preserved : goal.loop-keyword-preserved
loop-keyword-preserved c = λ first text is.
    let (below, here) = YieldsList-turn
    (YieldsList-at {s = c.into_iter-keyword-iterator.result} (cc) (YieldsList-from_slice_split {s = c.split-keyword-items.result} _ is_semicolon c.args.modifier.now c.split-keyword-items.ensures.rest c.split-keyword-items.ensures.done c.split-keyword-items.ensures.closure (λ x r q k. search (rules, tests))))
    c.loop-keyword.yielded _ c.loop-keyword.yielded_by _ _ c.in-Some.keyword c.in-Some.is c.next.ensures.steps in
    subst (HasText first c.push_keyword.new.out)
    (appended_next (slice_split is_semicolon c.args.modifier.now) c.loop-keyword.yielded c.in-Some.keyword c.in-Some.keyword.now below here text)
    (c.push_keyword.ensures first _ (c.loop-keyword.invariant first text is))

pub returns : goal.returns
returns c = λ first text is.
    let (all, count) = YieldsList-end
    (YieldsList-at {s = c.into_iter-keyword-iterator.result} (cc) (YieldsList-from_slice_split {s = c.split-keyword-items.result} _ is_semicolon c.args.modifier.now c.split-keyword-items.ensures.rest c.split-keyword-items.ensures.done c.split-keyword-items.ensures.closure (λ x r q k. search (rules, tests))))
    c.loop-keyword.yielded _ c.loop-keyword.yielded_by _ _ c.in-None.is c.next.ensures.steps in
    let whole = take_all (length c.loop-keyword.yielded) (slice_split is_semicolon c.args.modifier.now) (omega (arith, count)) in
    subst (HasText first c.loop-keyword.out) (ap (λ t. text ++ flat_map keyword_text t) whole) (c.loop-keyword.invariant first text is)
