use Rattle.langtag_keyword.proofs.Common.{◌≡◌, ◌∷◌, ap, pushes_ended, pushes_next, pushes_same, segments_left, arith, nat_tests}
use Rattle.langtag_locale.specs.Resolved.{remaining_subtags}
use Rattle.langtag_locale.specs.WishTexts.{wish_texts}
use Rattle.langtag_locale.proofs.resolved_keywords.push_remaining.Goals as goal

pub loop-rest-preserved-then-not-is_removed : goal.loop-rest-preserved-then-not-is_removed
loop-rest-preserved-then-not-is_removed c =
    let first = c.split_first.result.0.now in
    let others = segments_left c.split_first.result.1 in
    let stays = remaining_subtags (wish_texts c.args.wish) c.belongs_to_removed-is_removed.result others in
    let all : first ∷ stays ≡ remaining_subtags (wish_texts c.args.wish) c.loop-rest.is_removed (segments_left c.loop-rest.rest) =
    grind (arith, nat_tests, c.in-Some.is, c.split_first.ensures, c.belongs_to_removed-is_removed.ensures, c.if-not-is_removed.true) in
    λ new these. c.loop-rest.invariant new (pushes_same _ _ _ new all (pushes_next _ first stays _ _ new c.as_bytes.ensures.value c.push_subtag.ensures these))

pub loop-rest-preserved : goal.loop-rest-preserved
loop-rest-preserved c =
    let others = segments_left c.split_first.result.1 in
    let all : remaining_subtags (wish_texts c.args.wish) c.belongs_to_removed-is_removed.result others ≡ remaining_subtags (wish_texts c.args.wish) c.loop-rest.is_removed (segments_left c.loop-rest.rest) =
    grind (arith, nat_tests, c.in-Some.is, c.split_first.ensures, c.belongs_to_removed-is_removed.ensures, c.if-not-is_removed.false) in
    λ new these. c.loop-rest.invariant new (pushes_same _ _ _ new all these)

pub returns : goal.returns
returns c = c.loop-rest.invariant _ (pushes_ended _ _ (ap (λ r. remaining_subtags (wish_texts c.args.wish) c.loop-rest.is_removed (segments_left r)) c.in_default.is))
