use Rattle.langtag_scan.proofs.Prelude.{◌≤◌, ◌+◌, ◌-◌, ◌∙◌, length, take, min, arith, ap, length-take, take_all, count_by-le-length}
use Rattle.langtag_choice.specs.Suitable.{is_suitable, suitable_count}
use Rattle.langtag_choice.proofs.serving.suitable_count.Goals as goal

pub overflow_add-count : goal.overflow_add-count
overflow_add-count g c =
    let elements = g.R.RangeList.elements c.args.ranges in
    let texts = g.T.TagList.texts c.args.tags.now in
    let end = c.loop-start.start + min 64 (length texts - c.loop-start.start) in
    omega (arith, c.loop-start.invariant.counted, c.count_from-count.ensures, count_by-le-length (is_suitable elements) (take end texts), length-take end texts, c.count.ensures, c.count.type_inv)

pub loop-start-preserved : goal.loop-start-preserved
loop-start-preserved g c = record {
  within = omega (arith, c.min-start.ensures, c.count-in-loop-start.ensures, c.loop-start.invariant.within);
  counted =
      let before = c.loop-start.invariant.counted in
      let more = c.count_from-count.ensures in
      let step = c.min-start.ensures in
      let long = c.count-in-loop-start.ensures in
      grind (arith, before, more, step, long);
}

pub returns : goal.returns
returns g c =
    let texts = g.T.TagList.texts c.args.tags.now in
    let past : length texts ≤ c.loop-start.start = omega (arith, c.loop-start-test.false, c.count.ensures) in
    c.loop-start.invariant.counted ∙ ap (suitable_count (g.R.RangeList.elements c.args.ranges)) (take_all c.loop-start.start texts past)
