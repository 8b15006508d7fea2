use Rattle.langtag_scan.proofs.Prelude.{arith, nat_tests, nat_lt, and_parts, sym, ◌∙◌, ◌+◌, ℕ, ◌≡◌, true, false, get_or, rules}
use Rattle.langtag_choice.specs.Remaining.{without_all}
use Rattle.langtag_choice.specs.Found.{is_unrefused_at}
use Rattle.langtag_choice.proofs.FoundLaws.{block_flags, tries_both, tries_same}
use Rattle.langtag_choice.proofs.SuitableTags.{free_within, without_count}
use Rattle.langtag_choice.proofs.by_tags.best_by_tags.Goals as goal

pub improve_at-requires : goal.improve_at-requires
improve_at-requires g c =
    let within = λ (k : ℕ) (set : get_or c.free_from-free.result k false ≡ true).
    free_within (g.R.RangeList.elements c.args.ranges) (g.T.TagList.texts c.args.tags.now) c.args.chosen.now (c.loop-start.start + k)
    (and_parts (nat_lt k 64) (is_unrefused_at (g.R.RangeList.elements c.args.ranges) (without_all (g.T.TagList.texts c.args.tags.now) c.args.chosen.now) (c.loop-start.start + k)) (sym (c.free_from-free.ensures k) ∙ set)).1 in
    search (rules, within)

pub loop-start-preserved : goal.loop-start-preserved
loop-start-preserved g c = record {
  within = omega (arith, c.min-start.ensures, c.count-in-loop-start.ensures, c.loop-start.invariant.within);
  tries = tries_both _ _ _ _ _ _ _ _ _ _ _ c.loop-start.invariant.tries c.improve_at.ensures (λ place index among inside.
      block_flags (g.R.RangeList.elements c.args.ranges) (without_all (g.T.TagList.texts c.args.tags.now) c.args.chosen.now) c.loop-start.start c.min-start.result c.free_from-free.result index c.free_from-free.ensures
      (omega (arith, c.min-start.ensures, c.count-in-loop-start.ensures, without_count (g.T.TagList.texts c.args.tags.now) c.args.chosen.now)) (omega (arith, inside, without_count (g.T.TagList.texts c.args.tags.now) c.args.chosen.now)));
}

pub returns : goal.returns
returns g c = tries_same _ _ _ _ _ _ _ _ _ c.loop-start.invariant.tries (λ place index among inside. grind (arith, nat_tests))
