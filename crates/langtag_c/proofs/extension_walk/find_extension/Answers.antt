use Rattle.langtag_scan.proofs.Prelude.{cases_lt}
use Rattle.langtag_keyword.proofs.Common.{refl, sym, subst, ap, ◌∙◌, arith, nat_tests, extension_texts, length_with_hyphens, subtags}
use Rattle.langtag_scan.specs.Grammar.{after_first}
use Rattle.langtag_extension.specs.Decided.{opens_alike}
use Rattle.std.proofs.Common.{eq-eqb, ne_eqb}
use Rattle.langtag_c.specs.Spans.{end_of, span_text}
use Rattle.langtag_c.proofs.FoundExtension.{after-opening, after-other, after-singleton, end-first, extension-step, opens-text, subtags-first, subtags-none, without-singleton}
use Rattle.langtag_c.proofs.ExtensionSpans.{AreSubtags}
use Rattle.langtag_c.proofs.extension_walk.find_extension.Goals as goal

pub without_singleton-requires-clause-some : goal.without_singleton-requires-clause-some
without_singleton-requires-clause-some c =
    let part = c.in-Some.ensures in
    let taken = c.take_first-extension.ensures in
    let step = extension-step _ c.loop-part.rest _ _ c.in-Some.part _ c.loop-part.invariant.extensions part.0 part.1 c.first_extension_end.ensures taken.first taken.rest in
    step.place.1

pub returns-then-into_smallcase-clause-subtags : goal.returns-then-into_smallcase-clause-subtags
returns-then-into_smallcase-clause-subtags c es spells =
    let part = c.in-Some.ensures in
    let taken = c.take_first-extension.ensures in
    let text = c.args.bytes.now in
    let byte = c.args.singleton in
    let step = extension-step _ c.loop-part.rest _ _ c.in-Some.part _ c.loop-part.invariant.extensions part.0 part.1 c.first_extension_end.ensures taken.first taken.rest in
    let opened = opens-text byte _ c.in-Some.part.now c.first_extension_end.result step.bytes (omega (arith, step.place.1, ap (λ span. span.len) taken.first))
    ∙ eq-eqb _ _ (sym c.into_smallcase.ensures ∙ c.if-into_smallcase.true ∙ c.into_smallcase-in-Some.ensures) in
    subtags-first byte text c.args.extensions c.take_first-extension.result c.without_singleton.result (extension_texts (span_text text c.loop-part.rest)) c.loop-part.invariant.same
    (rw (step.texts, opened) refl)
    (ap (span_text text) c.without_singleton.ensures ∙ without-singleton text c.take_first-extension.result step.place.1) es spells

pub returns-then-into_smallcase-clause-some : goal.returns-then-into_smallcase-clause-some
returns-then-into_smallcase-clause-some c =
    let part = c.in-Some.ensures in
    let taken = c.take_first-extension.ensures in
    let text = c.args.bytes.now in
    let step = extension-step _ c.loop-part.rest _ _ c.in-Some.part _ c.loop-part.invariant.extensions part.0 part.1 c.first_extension_end.ensures taken.first taken.rest in
    let is = ap (span_text text) c.without_singleton.ensures ∙ without-singleton text c.take_first-extension.result step.place.1 in
    record {
      within = omega (arith, ap end_of c.without_singleton.ensures, step.place.0, step.place.1);
      some = subst (λ t. AreSubtags (subtags t)) (sym is) (after-singleton _ step.first).0;
    }

pub returns-then-into_smallcase-clause-end : goal.returns-then-into_smallcase-clause-end
returns-then-into_smallcase-clause-end c some =
    let part = c.in-Some.ensures in
    let taken = c.take_first-extension.ensures in
    let text = c.args.bytes.now in
    let byte = c.args.singleton in
    let step = extension-step _ c.loop-part.rest _ _ c.in-Some.part _ c.loop-part.invariant.extensions part.0 part.1 c.first_extension_end.ensures taken.first taken.rest in
    let opened = opens-text byte _ c.in-Some.part.now c.first_extension_end.result step.bytes (omega (arith, step.place.1, ap (λ span. span.len) taken.first))
    ∙ eq-eqb _ _ (sym c.into_smallcase.ensures ∙ c.if-into_smallcase.true ∙ c.into_smallcase-in-Some.ensures) in
    let others = sym c.loop-part.invariant.after ∙ ap (after_first (opens_alike byte)) step.texts ∙ after-opening (opens_alike byte) (span_text text c.take_first-extension.result) (extension_texts (span_text text c.take_first-extension.new.self)) opened in
    let end = end-first text c.in-Some.part.now c.loop-part.rest c.take_first-extension.new.self c.take_first-extension.result c.first_extension_end.result part.0 part.1 c.first_extension_end.ensures taken.first taken.rest in
    omega (arith, ap length_with_hyphens others, end, c.loop-part.invariant.ends, ap end_of c.without_singleton.ensures, step.place.1)

pub loop-part-preserved : goal.loop-part-preserved
loop-part-preserved c =
    let part = c.in-Some.ensures in
    let taken = c.take_first-extension.ensures in
    let text = c.args.bytes.now in
    let byte = c.args.singleton in
    let step = extension-step _ c.loop-part.rest _ _ c.in-Some.part _ c.loop-part.invariant.extensions part.0 part.1 c.first_extension_end.ensures taken.first taken.rest in
    let other = opens-text byte _ c.in-Some.part.now c.first_extension_end.result step.bytes (omega (arith, step.place.1, ap (λ span. span.len) taken.first))
    ∙ ne_eqb _ _ (λ same. c.if-into_smallcase.false (c.into_smallcase.ensures ∙ same ∙ sym c.into_smallcase-in-Some.ensures)) in
    record {
      within = omega (arith, taken.ends, c.loop-part.invariant.within);
      extensions = step.left;
      ends = taken.ends ∙ c.loop-part.invariant.ends;
      after = sym (ap (after_first (opens_alike byte)) step.texts ∙ after-other (opens_alike byte) (span_text text c.take_first-extension.result) (extension_texts (span_text text c.take_first-extension.new.self)) other) ∙ c.loop-part.invariant.after;
      same = rw (step.texts, other) at c.loop-part.invariant.same;
    }

pub returns-clause-subtags : goal.returns-clause-subtags
returns-clause-subtags c es spells = grind (arith, nat_tests, subtags-none, cases_lt)
