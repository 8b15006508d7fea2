use Rattle.langtag_scan.proofs.Prelude.{refl, arith, nat_tests, ◌+◌}
use Rattle.langtag_choice.proofs.FoundLaws.{none_flagged}
use Rattle.langtag_choice.proofs.SuitableTags.{tag_within}
use Rattle.langtag_choice.proofs.by_tags.not_chosen.Goals as goal

pub loop-offset-init : goal.loop-offset-init
loop-offset-init g c = record { long = refl; flags = λ k. none_flagged 64 k _ }

pub returns : goal.returns
returns g c = λ k.
    let within = tag_within (g.T.TagList.texts c.args.tags.now) c.args.chosen.now (c.args.start + k) in
    grind (arith, nat_tests, c.loop-offset.invariant.flags k, within)
