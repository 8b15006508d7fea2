use Rattle.langtag_keyword.proofs.Common.{◌∷◌, [], ap, arith, flat_map, drop_all, pushes_ended, number_text}
use Rattle.langtag_keyword.proofs.LeastTexts.{put_more}
use Rattle.langtag_keyword.proofs.least_numbers.push_numbers.Goals as goal

pub loop-number-preserved : goal.loop-number-preserved
loop-number-preserved c = λ new these.
    c.loop-number.invariant new (put_more (λ n. number_text n ∷ []) c.args.numbers.now c.loop-number.number-index _ _ new c.loop-number-test.true c.push_number.ensures these)

pub returns : goal.returns
returns c =
    c.loop-number.invariant _
    (pushes_ended _ _ (ap (flat_map (λ n. number_text n ∷ [])) (drop_all c.loop-number.number-index c.args.numbers.now (omega (arith, c.loop-number-test.false)))))
