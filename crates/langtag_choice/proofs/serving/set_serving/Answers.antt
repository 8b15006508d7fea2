use Rattle.langtag_scan.proofs.Prelude.{arith, nat_tests, cases_lt, eqb_tells, ap, get_or_past, get_or-set_other, get_or-set_at}
use Rattle.langtag_choice.specs.Serves.{serves}
use Rattle.langtag_choice.proofs.serving.set_serving.Goals.{then-free-offset+then-not-flags-offset, else-free-offset, else-free-offset-via-then-free-offset+else-not-flags-offset, else-free-offset-via-else-free-offset}
use Rattle.langtag_choice.proofs.serving.set_serving.Goals as goal

pub loop-offset-preserved : goal.loop-offset-preserved
loop-offset-preserved g c =
    let offset = c.loop-offset.offset in
    let known = c.loop-offset.invariant in
    elim c.if-free-offset.branch [
      | then-free-offset+then-not-flags-offset w ↦ record {
        long = c.if-free-offset.array_long;
        before = λ k tag below there.
            let serving = w.may_serve.ensures tag in
            let before = known.before k tag in
            let after = known.after k in
            let element = ap (λ e. serves e tag) c.in-Some.ensures.0 in
            grind (arith, nat_tests, w.flags-is, get_or-set_other, get_or-set_at, serving, before, after, element, there, w.if-free-offset, w.if-not-flags-offset, cases_lt k offset);
        after = λ k past. grind (arith, w.flags-is, get_or-set_other, known.after k);
        others = λ k none. grind (arith, w.flags-is, get_or-set_other, known.others k, w.if-free-offset, eqb_tells k offset);
      }
      | else-free-offset w ↦ record {
        long = c.if-free-offset.array_long;
        before = λ k tag below there.
            let before = known.before k tag in
            let after = known.after k in
            elim w.else-free-offset.branch [
              | else-free-offset-via-then-free-offset+else-not-flags-offset w' ↦ grind (arith, nat_tests, w.flags-is, before, after, there, w'.if-free-offset, w'.if-not-flags-offset, cases_lt k offset)
              | else-free-offset-via-else-free-offset w' ↦ grind (arith, nat_tests, w.flags-is, before, after, there, w'.if-free-offset, cases_lt k offset)
            ];
        after = λ k past. grind (arith, w.flags-is, known.after k);
        others = λ k none. grind (arith, w.flags-is, known.others k);
      }
    ]

pub returns-clause-serving : goal.returns-clause-serving
returns-clause-serving g c = λ k tag there.
    let before = c.loop-offset.invariant.before k tag in
    let others = c.loop-offset.invariant.others k in
    grind (arith, nat_tests, before, others, there, cases_lt k 64, get_or_past, c.told-free)
