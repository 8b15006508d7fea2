use Rattle.langtag_keyword.proofs.Common.{◌≡◌, [], ◌∷◌, map, sym, ap, subst, ◌∙◌, AllByRecursion, IsSubtag, segments_left, IsOffered, order_number, nat_tests, arith}
use Rattle.langtag_keyword.proofs.LeastTexts.{offered-both, offered-none}
use Rattle.langtag_keyword.proofs.alphabet.offer_each.Goals as goal

pub loop-rest-preserved : goal.loop-rest-preserved
loop-rest-preserved g c =
    let others = segments_left c.split_first.result.1 in
    let here : segments_left c.loop-rest.rest ≡ c.split_first.result.0.now ∷ others = ap segments_left c.in-Some.is ∙ c.split_first.ensures in
    let numbers : c.order_number.result ∷ map order_number others ≡ map order_number (segments_left c.loop-rest.rest) =
    grind (arith, nat_tests, here, c.order_number.ensures, c.as_bytes.ensures.value) in
    record {
      each = (subst (AllByRecursion IsSubtag) here c.loop-rest.invariant.each).1;
      so_far = λ new these.
          c.loop-rest.invariant.so_far new
          (subst (λ ns. IsOffered ns c.loop-rest.least new) numbers (offered-both (c.order_number.result ∷ []) (map order_number others) c.loop-rest.least c.offer.new.self new c.offer.ensures these));
    }

pub returns : goal.returns
returns g c =
    c.loop-rest.invariant.so_far c.loop-rest.least
    (subst (λ rest. IsOffered (map order_number (segments_left rest)) c.loop-rest.least c.loop-rest.least) (sym c.in_default.is) (offered-none c.loop-rest.least))
