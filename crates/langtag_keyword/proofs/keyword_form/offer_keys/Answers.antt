use Rattle.langtag_keyword.proofs.Common.{map, sym, subst, AllByRecursion, filter, IsSubtag, opens_keyword, IsOffered, order_number, arith, nat_tests, ◌≡◌, ◌∷◌, []}
use Rattle.langtag_keyword.proofs.LeastTexts.{offered-both, offered-none}
use Rattle.langtag_keyword.proofs.keyword_form.offer_keys.Goals as goal

pub loop-subtag-preserved-then-has : goal.loop-subtag-preserved-then-has
loop-subtag-preserved-then-has g c =
    let others = map order_number (filter (opens_keyword c.args.keys) c.next.new.self) in
    let numbers : c.order_number.result ∷ others ≡ map order_number (filter (opens_keyword c.args.keys) c.loop-subtag.subtag-iterator) =
    grind (arith, nat_tests, c.in-Some.ensures.steps, c.as_bytes.ensures.value, c.has.ensures.is_key, c.if-has.true, c.order_number.ensures, c.as_bytes-then-has.ensures.value) in
    record {
      can_next = tt;
      is_finite = tt;
      each = (subst (AllByRecursion IsSubtag) c.in-Some.ensures.steps c.loop-subtag.invariant.each).1;
      so_far = λ new these.
          c.loop-subtag.invariant.so_far new (subst (λ ns. IsOffered ns c.loop-subtag.least new) numbers (offered-both (c.order_number.result ∷ []) others _ _ new c.offer.ensures these));
    }

pub loop-subtag-preserved : goal.loop-subtag-preserved
loop-subtag-preserved g c =
    let numbers : map order_number (filter (opens_keyword c.args.keys) c.next.new.self) ≡ map order_number (filter (opens_keyword c.args.keys) c.loop-subtag.subtag-iterator) =
    grind (arith, nat_tests, c.in-Some.ensures.steps, c.as_bytes.ensures.value, c.has.ensures.is_key, c.if-has.false) in
    record {
      can_next = tt;
      is_finite = tt;
      each = (subst (AllByRecursion IsSubtag) c.in-Some.ensures.steps c.loop-subtag.invariant.each).1;
      so_far = λ new these. c.loop-subtag.invariant.so_far new (subst (λ ns. IsOffered ns c.loop-subtag.least new) numbers these);
    }

pub returns : goal.returns
returns g c =
    c.loop-subtag.invariant.so_far c.loop-subtag.least
    (subst (λ ss. IsOffered (map order_number (filter (opens_keyword c.args.keys) ss)) c.loop-subtag.least c.loop-subtag.least) (sym c.in-None.ensures.steps.0) (offered-none c.loop-subtag.least))
