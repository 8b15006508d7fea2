use Rattle.langtag_keyword.proofs.Common.{ap, arith, flat_map, drop_all, pushes_ended, pushes_same, subtags, keyword_form, canonical_value_of, opens_keyword, key_of}
use Rattle.langtag_keyword.proofs.LeastTexts.{put_more}
use Rattle.langtag_keyword.proofs.keyword_form.push_each_of_few.Goals as goal

pub loop-number-preserved : goal.loop-number-preserved
loop-number-preserved c = λ new these.
    let of = keyword_form (opens_keyword c.args.keys) (canonical_value_of c.args.keys) (subtags c.args.text.now) in
    c.loop-number.invariant new
    (put_more (λ n. of (key_of n)) c.args.numbers.now c.loop-number.number-index _ _ new c.loop-number-test.true
    (pushes_same _ _ _ _ (ap of c.key_of-key.ensures) (c.push_keyword.ensures (subtags c.args.text.now) c.value_in.ensures)) these)

pub returns : goal.returns
returns c =
    let of = keyword_form (opens_keyword c.args.keys) (canonical_value_of c.args.keys) (subtags c.args.text.now) in
    c.loop-number.invariant _
    (pushes_ended _ _ (ap (flat_map (λ n. of (key_of n))) (drop_all c.loop-number.number-index c.args.numbers.now (omega (arith, c.loop-number-test.false)))))
