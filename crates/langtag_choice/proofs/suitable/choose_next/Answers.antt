use Rattle.std.proofs.lemmas.List.{get_or_read}
use Rattle.langtag_scan.proofs.Prelude.{◌≡◌, ◌<◌, None, Some, length, take, get_or, inl, inr, refl, sym, ap, subst, ◌∙◌, arith, rules, length-take, take_more_set, is_none}
use Rattle.langtag_choice.specs.Remaining.{GoesOn, without_all}
use Rattle.langtag_choice.specs.Found.{IsShortlist, TakesFirst}
use Rattle.langtag_choice.proofs.SuitableTags.{one_more, rest_after}
use Rattle.langtag_choice.proofs.TurnLaws.{none_from_test, none_listed, shortlist, turn_choice, turn_none, turn_rest, turn_some}
use Rattle.langtag_choice.proofs.suitable.choose_next.Goals as goal

pub loop-end-init : goal.loop-end-init
loop-end-init g c = record {
  within = search rules;
  some = search rules;
  shortlist = subst (λ bar. IsShortlist (g.R.RangeList.elements c.args.ranges) (without_all (g.T.TagList.texts c.args.tags.now) (take c.args.start c.args.found.now)) bar c.best_by_tags.new.best)
      (sym (sym c.index-best-worst_of.is ∙ get_or_read c.best_by_tags.new.best c.worst_of.result c.index-best-worst_of.result c.worst_of.ensures.inside c.index-best-worst_of.is None)) (shortlist (g.R.RangeList.elements c.args.ranges) (g.T.TagList.texts c.args.tags.now) (take c.args.start c.args.found.now) _ c.best_by_tags.new.best c.worst_of.result (none_listed 64) c.worst_of.ensures.inside c.worst_of.ensures.worst c.best_by_tags.ensures);
  chosen = λ goes. goes;
  rest = refl;
  moved = inl (refl, refl);
}

pub loop-end-preserved : goal.loop-end-preserved
loop-end-preserved g c =
    let elements = g.R.RangeList.elements c.args.ranges in
    let texts = g.T.TagList.texts c.args.tags.now in
    let room = length c.args.found.now in
    let found = c.loop-end.found in
    let count = c.loop-end.end in
    let next = c.in-Some.next in
    let inside : count < length found = search rules in
    let long : length (take count found) ≡ count = omega (arith, length-take count found, inside) in
    let below : length (take count found) < room = omega (arith, long, inside, c.loop-end.auto.found) in
    let takes : TakesFirst c.loop-end.best (Some next) c.take_first.new.best = c.in-Some.ensures in
    let list = c.loop-end.invariant.shortlist in
    record {
      within = search rules;
      some = search rules;
      shortlist = subst (λ chosen. IsShortlist elements (without_all texts chosen) (get_or c.best_by_tags.new.best c.worst_of.result c.index-best-worst_of.result) c.take_first.new.best) (sym (take_more_set found count next.index inside)) (turn_rest elements texts (take count found) _ c.loop-end.best c.take_first.new.best list next takes);
      chosen = λ goes. subst (GoesOn elements texts room) (sym (take_more_set found count next.index inside))
          (one_more elements texts room (take count found) next.index below (turn_choice elements texts (take count found) _ c.loop-end.best c.take_first.new.best list next takes) (c.loop-end.invariant.chosen goes));
      rest = rest_after found c.args.found.now count next.index c.loop-end.invariant.rest;
      moved = elim c.loop-end.invariant.moved [ inl same ↦ inr (omega (arith, same.0)) | inr later ↦ inr (omega (arith, later)) ];
    }

pub returns-in_default-clause-last : goal.returns-in_default-clause-last
returns-in_default-clause-last g c = λ none below.
    turn_none (g.R.RangeList.elements c.args.ranges) (g.T.TagList.texts c.args.tags.now) (take c.loop-end.end c.loop-end.found) _ c.loop-end.best c.take_first.new.best c.loop-end.invariant.shortlist c.in_default.ensures
    (none_from_test _ (search rules))

pub returns-in_default-clause-more : goal.returns-in_default-clause-more
returns-in_default-clause-more g c = λ some. elim c.loop-end.invariant.moved [
  | inl same ↦ absurd (turn_some c.loop-end.best c.take_first.new.best c.worst_of.result c.in_default.ensures (ap (λ best. is_none (get_or best c.worst_of.result None)) same.1 ∙ ap is_none (sym (sym c.index-best-worst_of.is ∙ get_or_read c.best_by_tags.new.best c.worst_of.result c.index-best-worst_of.result c.worst_of.ensures.inside c.index-best-worst_of.is None)) ∙ (search rules)))
  | inr later ↦ later
]
