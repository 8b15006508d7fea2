use Rattle.langtag_keyword.proofs.Common.{◌≡◌, ◌∷◌, ◌++◌, option_map, pushes_both, pushes_next, pushes_same, segments_left, subtags, without_keyword, arith, nat_tests}
use Rattle.langtag_keyword.proofs.KeywordLaws.{put_at_standing}
use Rattle.langtag_keyword.proofs.edited_subtags.push_with_keyword.Goals as goal

pub returns-then-is_place : goal.returns-then-is_place
returns-then-is_place c =
    let standing = option_map (λ t. t.now) c.standing_key-standing.result in
    let left = segments_left c.loop-rest.rest in
    let keyword = c.unwrap_or.result.now ∷ subtags c.args.value.now in
    let all : keyword ++ without_keyword c.args.key.now left ≡ put_at_standing c.args.key.now standing (subtags c.args.value.now) left =
    grind (arith, nat_tests, c.in-Some.is, c.split_first.ensures, c.is_place.ensures, c.if-is_place.true, c.unwrap_or.ensures) in
    c.loop-rest.invariant _ (pushes_same _ _ _ _ all (pushes_both keyword (without_keyword c.args.key.now left) _ _ _ c.push_keyword.ensures c.push_without_keyword.ensures))

pub loop-rest-preserved : goal.loop-rest-preserved
loop-rest-preserved c =
    let put = put_at_standing c.args.key.now (option_map (λ t. t.now) c.standing_key-standing.result) (subtags c.args.value.now) in
    let first = c.split_first.result.0.now in
    let others = segments_left c.split_first.result.1 in
    let all : first ∷ put others ≡ put (segments_left c.loop-rest.rest) =
    grind (arith, nat_tests, c.in-Some.is, c.split_first.ensures, c.is_place.ensures, c.if-is_place.false) in
    λ new these. c.loop-rest.invariant new (pushes_same _ _ _ new all (pushes_next _ first (put others) _ _ new c.as_bytes.ensures.value c.push_subtag.ensures these))

pub returns : goal.returns
returns c =
    let put = put_at_standing c.args.key.now (option_map (λ t. t.now) c.standing_key-standing.result) (subtags c.args.value.now) in
    let all : c.unwrap_or-2.result.now ∷ subtags c.args.value.now ≡ put (segments_left c.loop-rest.rest) = grind (arith, nat_tests, c.in_default.is, c.unwrap_or-2.ensures) in
    c.loop-rest.invariant _ (pushes_same _ _ _ _ all c.push_keyword-2.ensures)
