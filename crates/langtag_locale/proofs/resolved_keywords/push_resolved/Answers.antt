use Rattle.langtag_keyword.proofs.Common.{filter, false, map, sym, ap, ◌∙◌, arith, keyword_form, key_of, is_key, in_alphabet, unicode_value, segments_left, subtags, pushes_ended, pushes_same}
use Rattle.langtag_scan.proofs.Prelude.{ltb-false}
use Rattle.langtag_keyword.specs.declared.keys.Keys.TheVariants.{Unicode}
use Rattle.langtag_keyword.proofs.KeySetLaws.{are-keys}
use Rattle.langtag_keyword.proofs.LeastLaws.{above, above-all}
use Rattle.langtag_keyword.proofs.LeastTexts.{keys-fit, numbers, rise-in_order, rounds-first, rounds-kept, rounds-next, rounds-smaller}
use Rattle.langtag_locale.proofs.ResolvedLaws.{above-greatest, flat-nothing, kept-split, keys_named, nothing}
use Rattle.langtag_locale.specs.Resolved.{remaining_subtags, with_keywords}
use Rattle.langtag_locale.specs.WishTexts.{wish_texts}
use Rattle.langtag_locale.proofs.resolved_keywords.push_resolved.Goals as goal

pub loop-more-init : goal.loop-more-init
loop-more-init c =
    let w = wish_texts c.args.wish in
    let keys = filter is_key w.unicode in
    let ns = numbers (in_alphabet keys) in
    let fits = keys-fit keys (are-keys Unicode w.unicode c.requires) in
    record {
      rounds = rounds-first nothing keys _ _ fits c.new-least.ensures.empty c.new-least.ensures.last;
      so_far = λ end those.
          pushes_same _ _ _ end
          (ap (λ n. with_keywords (keyword_form is_key unicode_value w.unicode) (map key_of (above n ns)) (remaining_subtags w false (segments_left c.nonempty-rest.result))) c.new-least.ensures.last
          ∙ ap (λ ks. with_keywords (keyword_form is_key unicode_value w.unicode) (map key_of ks) (remaining_subtags w false (segments_left c.nonempty-rest.result))) (above-all 0 0 ns (omega arith) (rise-in_order keys fits))
          ∙ ap (λ ss. with_keywords (keyword_form is_key unicode_value w.unicode) (map key_of ns) (remaining_subtags w false ss)) c.nonempty-rest.ensures.segments)
          those;
    }

pub loop-more-preserved : goal.loop-more-preserved
loop-more-preserved c =
    let w = wish_texts c.args.wish in
    let keys = filter is_key w.unicode in
    let ns = numbers (in_alphabet keys) in
    let now = c.loop-more.invariant.rounds in
    let offered = c.offer_keys.new.least in
    let less = rounds-smaller now c.sort.new.self c.advance-more.new.self c.loop-more-test.true c.offer_keys.ensures c.sort.ensures.kept c.sort.ensures.limit c.advance-more.ensures.next in
    let kept = c.kept.ensures ∙ rounds-kept now offered c.sort.new.self c.loop-more-test.true c.offer_keys.ensures c.sort.ensures.kept in
    let next = c.advance-more.ensures.next ∙ c.sort.ensures.limit in
    let last = c.offer_keys.ensures.last in
    let split = kept-split c.kept.result.now ns offered.last offered.limit c.advance-more.new.self.last kept next (omega (arith, less, next, last)) (rise-in_order keys now.fits) in
    record {
      rounds =
          rounds-next now c.sort.new.self c.advance-more.new.self c.loop-more-test.true c.offer_keys.ensures c.sort.ensures.kept c.sort.ensures.limit c.advance-more.ensures.next _ _ _
          c.advance-more.ensures.empty c.advance-more.ensures.more c.kept.ensures (pushes_ended _ _ (flat-nothing c.kept.result.now));
      so_far = λ end those.
          c.loop-more.invariant.so_far end
          (pushes_same _ _ _ end
          (ap (λ ks. with_keywords (keyword_form is_key unicode_value w.unicode) ks (remaining_subtags w false (segments_left c.loop-more.rest)))
          (split ∙ ap (λ n. map key_of (above n ns)) last))
          (c.push_each-rest.ensures (map key_of (above c.advance-more.new.self.last ns)) end those));
    }

pub loop-more-smaller : goal.loop-more-smaller
loop-more-smaller c =
    rounds-smaller c.loop-more.invariant.rounds c.sort.new.self c.advance-more.new.self c.loop-more-test.true c.offer_keys.ensures c.sort.ensures.kept c.sort.ensures.limit
    c.advance-more.ensures.next

pub returns : goal.returns
returns c =
    let w = wish_texts c.args.wish in
    let keys = filter is_key w.unicode in
    let ns = numbers (in_alphabet keys) in
    let now = c.loop-more.invariant.rounds in
    let none = above-greatest c.loop-more.least.last keys now.fits (ltb-false c.loop-more.least.last 18446744073709551615 (sym now.ended ∙ c.loop-more-test.false)) in
    pushes_same _ _ _ _ (ap (λ ks. with_keywords (keyword_form is_key unicode_value w.unicode) ks (remaining_subtags w false (subtags c.args.text.now))) (keys_named keys (are-keys Unicode w.unicode c.requires)))
    (c.loop-more.invariant.so_far _
    (pushes_same _ _ _ _ (sym (ap (λ ks. with_keywords (keyword_form is_key unicode_value w.unicode) (map key_of ks) (remaining_subtags w false (segments_left c.loop-more.rest))) none)) c.push_remaining.ensures))
