use Rattle.langtag_scan.proofs.Prelude.{◌≡◌, ◌≤◌, length, rules, inl, inr, arith, subst, sym, ◌∙◌, take_all, drop_all, length-map}
use Rattle.langtag_choice.specs.Suitable.{AreSuitable}
use Rattle.langtag_c.specs.TagsAt.{tag_at, tags_at}
use Rattle.langtag_c.proofs.ChoiceLaws.{all_written, full_counted}
use Rattle.langtag_c.proofs.suitable.write_and_count.Goals.{then-written-found-via-then-written-found, then-written-found-via-else-written-found+then-written-tags}
use Rattle.langtag_c.proofs.suitable.write_and_count.Goals as goal

pub returns-then-written-found-clause-number : goal.returns-then-written-found-clause-number
returns-then-written-found-clause-number g c =
    let elements = g.R.RangeList.elements c.args.ranges in
    let tags = tags_at c.args.tags.now.text.now c.args.tags.now.spans.now in
    let written = c.write_suitable-written in
    let long : length written.new.found ≡ length c.args.found.now = search rules in
    let all = all_written elements tags written.new.found (length c.args.found.now) written.result long written.ensures.within written.ensures.suitable in
    elim c.then-written-found.branch [
      | then-written-found-via-then-written-found w ↦ all (inl (omega (arith, long, w.if-written-found)))
      | then-written-found-via-else-written-found+then-written-tags w ↦ all (inr (omega (arith, w.if-written-tags, length-map c.args.tags.now.spans.now (tag_at c.args.tags.now.text.now))))
    ]

pub returns-clause-suitable : goal.returns-clause-suitable
returns-clause-suitable g c =
    let elements = g.R.RangeList.elements c.args.ranges in
    let tags = tags_at c.args.tags.now.text.now c.args.tags.now.spans.now in
    let found = c.write_suitable-written.new.found in
    let suitable = c.write_suitable-written.ensures.suitable in
    let full : length found ≤ c.write_suitable-written.result = omega (arith, c.if-written-found.false) in
    let counted = full_counted elements tags found (length c.args.found.now) c.write_suitable-written.result full suitable in
    subst (AreSuitable elements tags (length c.args.found.now))
    (take_all c.write_suitable-written.result found full ∙ sym (take_all c.suitable_count.result found (omega (arith, counted, c.suitable_count.ensures)))) suitable

pub returns-clause-rest : goal.returns-clause-rest
returns-clause-rest g c =
    let elements = g.R.RangeList.elements c.args.ranges in
    let tags = tags_at c.args.tags.now.text.now c.args.tags.now.spans.now in
    let found = c.write_suitable-written.new.found in
    let long : length found ≡ length c.args.found.now = search rules in
    let full : length found ≤ c.write_suitable-written.result = omega (arith, c.if-written-found.false) in
    let counted = full_counted elements tags found (length c.args.found.now) c.write_suitable-written.result full c.write_suitable-written.ensures.suitable in
    let past : length found ≤ c.suitable_count.result = omega (arith, counted, c.suitable_count.ensures) in
    drop_all c.suitable_count.result found past ∙ sym (drop_all c.suitable_count.result c.args.found.now (omega (arith, past, long)))
