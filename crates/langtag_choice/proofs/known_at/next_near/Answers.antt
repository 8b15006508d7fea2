use Rattle.langtag_scan.proofs.Prelude.{arith, nat_tests, rules}
use Rattle.langtag_choice.proofs.FoundLaws.{far_next, tries_same}
use Rattle.langtag_choice.proofs.known_at.next_near.Goals as goal

pub loop-index-preserved : goal.loop-index-preserved
loop-index-preserved g c =
    far_next (g.T.TagList.texts c.args.tags.now) c.args.wish.now c.args.from c.loop-index.index (search rules) c.loop-index.invariant (c.is_far_at.ensures (search rules))

pub returns : goal.returns
returns g c = λ found elements wanted.
    tries_same _ _ _ elements (g.T.TagList.texts c.args.tags.now) _ _ found found (c.loop-index.invariant found elements wanted) (λ place index among inside. grind (arith, nat_tests))
