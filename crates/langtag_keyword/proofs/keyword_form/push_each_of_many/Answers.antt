use Rattle.langtag_keyword.proofs.Common.{◌≡◌, get_or, ap, sym, subst, length, arith, flat_map, drop_all, pushes_ended, pushes_same, IsSubtag, subtags, keyword_form, canonical_value_of, opens_keyword, key_of, nat_tests}
use Rattle.langtag_keyword.proofs.KeyValues.{AreValues, value-at}
use Rattle.langtag_keyword.proofs.LeastTexts.{put_more}
use Rattle.langtag_keyword.proofs.keyword_form.push_each_of_many.Goals as goal
use Rattle.langtag_keyword.proofs.keyword_form.push_each_of_many.Goals.{else-key-first, then-key-first}

pub loop-number-preserved : goal.loop-number-preserved
loop-number-preserved c =
    let ss = subtags c.args.text.now in
    let opens = opens_keyword c.args.keys in
    let of = keyword_form opens (canonical_value_of c.args.keys) ss in
    let key = c.key_of-key.ensures in
    let index = c.loop-number.number-index in
    let is : IsSubtag c.key_of-key.result = subst IsSubtag (sym key) (c.requires.numbers index 0 c.loop-number-test.true) in
    let values : AreValues opens ss c.if-key-first.first c.if-key-first.values = λ second other. grind (arith, nat_tests, c.if-key-first.branch, c.loop-number.invariant.values second other) in
    let begins : c.if-key-first.first ≡ get_or c.key_of-key.result 0 0 = grind (arith, nat_tests, c.if-key-first.branch) in
    record {
      values = values;
      so_far = λ new these.
          c.loop-number.invariant.so_far new
          (put_more (λ n. of (key_of n)) c.args.numbers.now index _ _ new c.loop-number-test.true
          (pushes_same _ _ _ _ (ap of key)
          (c.push_keyword.ensures ss (value-at opens ss c.if-key-first.values c.key_of-key.result c.if-key-first.first c.place_of.result is (ap length key) begins c.place_of.ensures.place values))) these);
    }

pub returns : goal.returns
returns c =
    let of = keyword_form (opens_keyword c.args.keys) (canonical_value_of c.args.keys) (subtags c.args.text.now) in
    c.loop-number.invariant.so_far _
    (pushes_ended _ _ (ap (flat_map (λ n. of (key_of n))) (drop_all c.loop-number.number-index c.args.numbers.now (omega (arith, c.loop-number-test.false)))))
