use Rattle.langtag_scan.proofs.Prelude.{◌+◌, ◌<◌, length, arith, nat_tests}
use Rattle.langtag_choice.proofs.ServingLaws.{one_counted}
use Rattle.langtag_choice.proofs.serving.count_from.Goals.{then-suitable-offset, else-suitable-offset}
use Rattle.langtag_choice.proofs.serving.count_from.Goals as goal

pub overflow_add-count : goal.overflow_add-count
overflow_add-count g c = omega (arith, c.loop-offset.invariant.few, c.loop-offset-test.true, c.min-offset-end.type_inv)

pub loop-offset-preserved : goal.loop-offset-preserved
loop-offset-preserved g c =
    let elements = g.R.RangeList.elements c.args.ranges in
    let texts = g.T.TagList.texts c.args.tags.now in
    let offset = c.loop-offset.offset in
    let inside : c.args.start + offset < length texts = omega (arith, c.loop-offset-test.true, c.min-offset-end.ensures, c.count.ensures) in
    let one = one_counted elements texts (c.args.start + offset) inside in
    let flag = c.suitable_from-suitable.ensures offset in
    let small : offset < 64 = omega (arith, c.loop-offset-test.true, c.min-offset-end.ensures) in
    let before = c.loop-offset.invariant.counted in
    elim c.if-suitable-offset.branch [
      | then-suitable-offset w ↦ record {
        few = omega (arith, w.count-is, c.loop-offset.invariant.few);
        counted = grind (arith, nat_tests, w.count-is, one, flag, small, before, w.if-suitable-offset);
      }
      | else-suitable-offset w ↦ record {
        few = omega (arith, w.count-is, c.loop-offset.invariant.few);
        counted = grind (arith, nat_tests, w.count-is, one, flag, small, before, w.if-suitable-offset);
      }
    ]

pub returns : goal.returns
returns g c =
    let end = c.min-offset-end.ensures in
    let count = c.count.ensures in
    let counted = c.loop-offset.invariant.counted in
    grind (arith, counted, end, count)
