use Rattle.langtag_scan.proofs.Prelude.{◌≡◌, ◌+◌, ◌∙◌, ℕ, [], list_any, None, true, false, get_or, nat_lt, and_parts, sym, ap, arith, nat_tests, common_steps, rules}
use Rattle.langtag_choice.specs.Found.{is_unrefused_at}
use Rattle.langtag_choice.specs.Serves.{serves}
use Rattle.langtag_choice.proofs.FoundLaws.{none_flagged}
use Rattle.langtag_choice.proofs.ServingLaws.{suitable_at}
use Rattle.langtag_choice.proofs.SuitableTags.{free_within}
use Rattle.langtag_choice.proofs.serving.suitable_from.Goals as goal

pub loop-wanted-init : goal.loop-wanted-init
loop-wanted-init g c = record {
  unset = λ k free. none_flagged 64 k false ∙ grind (arith, nat_tests);
  set = λ k tag there free. let flag = none_flagged 64 k false in grind (arith, nat_tests, flag);
}

pub set_serving-requires : goal.set_serving-requires
set_serving-requires g c =
    let within = λ (k : ℕ) (set : get_or c.free_from-free.result k false ≡ true).
    free_within (g.R.RangeList.elements c.args.ranges) (g.T.TagList.texts c.args.tags.now) [] (c.args.start + k)
    (and_parts (nat_lt k 64) (is_unrefused_at (g.R.RangeList.elements c.args.ranges) (g.T.TagList.texts c.args.tags.now) (c.args.start + k)) (sym (c.free_from-free.ensures k) ∙ set)).1 in
    search (rules, within)

pub loop-wanted-preserved : goal.loop-wanted-preserved
loop-wanted-preserved g c = record {
  unset = λ k free. c.set_serving.ensures.others k free ∙ c.loop-wanted.invariant.unset k free;
  set = λ k tag there free.
      let was = c.loop-wanted.invariant.set k tag there free in
      let flag = c.set_serving.ensures.serving k tag there in
      let first = ap (list_any (λ element. serves element tag)) c.in-Some.ensures.first in
      grind (arith, common_steps, nat_tests, was, flag, first, free);
}

pub returns : goal.returns
returns g c = λ k.
    suitable_at (g.R.RangeList.elements c.args.ranges) (get_or (g.T.TagList.texts c.args.tags.now) (c.args.start + k) None) (get_or c.loop-wanted.suitable k false) (get_or c.free_from-free.result k false) (nat_lt k 64)
    (c.free_from-free.ensures k) (c.loop-wanted.invariant.unset k)
    (λ tag there free.
    let all = c.loop-wanted.invariant.set k tag there free in
    let none = ap (list_any (λ element. serves element tag)) c.in_default.ensures.first in
    grind (arith, common_steps, nat_tests, all, none))
