use Rattle.langtag_keyword.proofs.Common.{◌≡◌, ◌∷◌, ap, pushes_ended, pushes_next, pushes_same, segments_left, without_within, arith, nat_tests}
use Rattle.langtag_keyword.proofs.edited_subtags.push_without_keyword.Goals as goal

pub loop-rest-preserved-then-not-is_inside : goal.loop-rest-preserved-then-not-is_inside
loop-rest-preserved-then-not-is_inside c =
    let first = c.split_first.result.0.now in
    let others = segments_left c.split_first.result.1 in
    let stays = without_within c.args.key.now c.belongs-is_inside.result others in
    let all : first ∷ stays ≡ without_within c.args.key.now c.loop-rest.is_inside (segments_left c.loop-rest.rest) =
    grind (arith, nat_tests, c.in-Some.is, c.split_first.ensures, c.belongs-is_inside.ensures, c.if-not-is_inside.true) in
    λ new these. c.loop-rest.invariant new (pushes_same _ _ _ new all (pushes_next _ first stays _ _ new c.as_bytes.ensures.value c.push_subtag.ensures these))

pub loop-rest-preserved : goal.loop-rest-preserved
loop-rest-preserved c =
    let first = c.split_first.result.0.now in
    let others = segments_left c.split_first.result.1 in
    let all : without_within c.args.key.now c.belongs-is_inside.result others ≡ without_within c.args.key.now c.loop-rest.is_inside (segments_left c.loop-rest.rest) =
    grind (arith, nat_tests, c.in-Some.is, c.split_first.ensures, c.belongs-is_inside.ensures, c.if-not-is_inside.false) in
    λ new these. c.loop-rest.invariant new (pushes_same _ _ _ new all these)

pub returns : goal.returns
returns c = c.loop-rest.invariant _ (pushes_ended _ _ (ap (λ r. without_within c.args.key.now c.loop-rest.is_inside (segments_left r)) c.in_default.is))
