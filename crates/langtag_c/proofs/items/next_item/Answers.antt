use Rattle.langtag_keyword.proofs.Common.{◌≡◌, ◌+◌, ap, sym, ◌∙◌, arith, nat_tests}
use Rattle.langtag_c.specs.Spans.{end_of, span_between}
use Rattle.langtag_c.proofs.ExtensionSpans.{few, item_passed, item_taken}
use Rattle.langtag_c.proofs.items.next_item.Goals as goal

pub returns-then-not-is_empty_element-clause-taken : goal.returns-then-not-is_empty_element-clause-taken
returns-then-not-is_empty_element-clause-taken c =
    let part = c.in-Some.ensures in
    let len = c.len_before-len.ensures in
    let taken = c.take_first-item.ensures in
    let invariant = c.loop-list.invariant in
    let other = sym c.is_empty_element.ensures ∙ c.if-not-is_empty_element.true in
    let ends : end_of c.take_first-item.result ≡ c.loop-list.left.start + c.len_before-len.result = ap end_of taken.first in
    let inside = few _ _ c.loop-list.left _ part.0 part.1 len.within in
    record {
      has_bytes = (omega (arith, part.0.0, invariant.begins, invariant.ends), omega (arith, part.0.1, invariant.ends));
      begins = omega (arith, invariant.begins, ap (λ span. span.start) taken.first);
      within = omega (arith, ends, inside, invariant.ends);
      items = sym invariant.same ∙ item_taken _ _ c.loop-list.left _ _ part.0 part.1 len.within len.first taken.rest c.take_first-item.result other taken.first;
      rest = taken.rest ∙ ap (λ start. span_between start (end_of c.loop-list.left)) (sym ends) ∙ ap (span_between (end_of c.take_first-item.result)) invariant.ends;
    }

pub loop-list-preserved : goal.loop-list-preserved
loop-list-preserved c = grind (arith, nat_tests, item_passed)

pub returns-clause-nothing : goal.returns-clause-nothing
returns-clause-nothing c = λ _. c.loop-list.invariant.kept
