use Rattle.langtag_keyword.proofs.Common.{ℕ, List, ◌+◌, ◌++◌, drop, get_or, false, map, sym, ap, ◌∙◌, arith, at_drop_more, before_key, drop_all, keyword_form, key_of, is_key, unicode_value, segments_left, pushes_both, pushes_same}
use Rattle.langtag_locale.specs.Resolved.{from_greater, is_greater_key, remaining_subtags, with_keywords}
use Rattle.langtag_locale.specs.WishTexts.{wish_texts}
use Rattle.langtag_locale.proofs.resolved_keywords.push_each.Goals as goal

pub loop-number-preserved : goal.loop-number-preserved
loop-number-preserved c = λ keys end those.
    let w = wish_texts c.args.wish in
    let keyword = keyword_form is_key unicode_value w.unicode in
    let put : List (List ℕ) → List (List ℕ) → List (List ℕ) = with_keywords keyword in
    let ns = c.args.numbers.now in
    let k = c.loop-number.number-index in
    let key = key_of (get_or ns k 0) in
    let is = c.key_of-key.ensures in
    let left = map key_of (drop (k + 1) ns) ++ keys in
    let others = remaining_subtags w false (segments_left c.loop-number.rest) in
    c.loop-number.invariant keys end
    (pushes_same _ _ _ end (sym (at_drop_more (λ ns. put (map key_of ns ++ keys) others) ns k 0 c.loop-number-test.true))
    (pushes_both (before_key (is_greater_key key) others) _ _ _ end (pushes_same _ _ _ _ (ap (λ t. before_key (is_greater_key t) others) is) c.push_before-rest.ensures.before)
    (pushes_both (keyword key) _ _ _ end (pushes_same _ _ _ _ (ap keyword is) (c.push_keyword.ensures w.unicode c.value_in.ensures))
    (pushes_same _ _ _ end (ap (put left) (c.push_before-rest.ensures.rest ∙ ap (λ t. from_greater t others) is)) those))))

pub returns : goal.returns
returns c = λ keys end those.
    let w = wish_texts c.args.wish in
    let others = remaining_subtags w false (segments_left c.loop-number.rest) in
    c.loop-number.invariant keys end
    (pushes_same _ _ _ end (sym (ap (λ ns. with_keywords (keyword_form is_key unicode_value w.unicode) (map key_of ns ++ keys) others) (drop_all c.loop-number.number-index c.args.numbers.now (omega (arith, c.loop-number-test.false))))) those)
