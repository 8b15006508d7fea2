use Rattle.langtag_scan.proofs.Prelude.{◌+◌, ◌&&◌, ◌||◌, ◌==◌, arith, nat_lt, ap, ◌∙◌, nat_tests, get_or_past}
use Rattle.langtag_range.specs.Definitions.{listed_element}
use Rattle.langtag_choice.specs.Found.{is_flagged}
use Rattle.langtag_choice.proofs.FoundLaws.{flag_next, one_more_entry, tries_same}
use Rattle.langtag_choice.proofs.by_tags.improve_for_range.Goals.{then-free-offset, else-free-offset}
use Rattle.langtag_choice.proofs.by_tags.improve_for_range.Goals as goal

pub loop-offset-preserved : goal.loop-offset-preserved
loop-offset-preserved g c =
    let texts = g.T.TagList.texts c.args.tags.now in
    let element = listed_element c.args.wanted in
    let flags = c.args.free.now in
    let start = c.args.start in
    let offset = c.loop-offset.offset in
    elim c.if-free-offset.branch [
      | then-free-offset w ↦ rw (w.best-is, w.worst-is) (record {
        inside = w.improve-worst.ensures.inside;
        last = w.improve-worst.ensures.last;
        tries = one_more_entry _ _ _ texts c.in-Some.wish element c.args.place (λ i. is_flagged start flags i && nat_lt i (start + offset)) (λ i. i == (start + offset)) _ _ _ _ c.in-Some.ensures.0 c.in-Some.ensures.1 c.loop-offset.invariant.tries w.improve-worst.ensures.tries
            (λ i. flag_next start flags offset i ∙ ap (λ b. (is_flagged start flags i && nat_lt i (start + offset)) || (b && (i == (start + offset)))) w.if-free-offset.true);
      })
      | else-free-offset w ↦ rw (w.best-is, w.worst-is) (record {
        inside = c.loop-offset.invariant.inside;
        last = c.loop-offset.invariant.last;
        tries = λ elements wanted. tries_same _ _ _ elements texts _ _ _ _ (c.loop-offset.invariant.tries elements wanted) (λ p i among inside. grind (arith, nat_tests, flag_next start flags offset i));
      })
    ]

pub returns-clause-tries : goal.returns-clause-tries
returns-clause-tries g c = λ elements wanted. tries_same _ _ _ elements (g.T.TagList.texts c.args.tags.now) _ _ _ _ (c.loop-offset.invariant.tries elements wanted) (λ p i among inside. grind (arith, nat_tests, get_or_past))
