use Rattle.langtag_keyword.proofs.Common.{◌≡◌, [], ◌∷◌, ap, ◌∙◌, before_key, pushes_ended, pushes_next, pushes_same, segments_left, arith, nat_tests}
use Rattle.langtag_locale.specs.Resolved.{from_greater, is_greater_key, remaining_subtags}
use Rattle.langtag_locale.specs.WishTexts.{wish_texts}
use Rattle.langtag_locale.proofs.resolved_keywords.push_before.Goals as goal

pub returns-then-is_greater_key-clause-before : goal.returns-then-is_greater_key-clause-before
returns-then-is_greater_key-clause-before c =
    let none : before_key (is_greater_key c.args.key.now) (remaining_subtags (wish_texts c.args.wish) c.loop-rest.is_removed (segments_left c.loop-rest.rest)) ≡ [] =
    grind (arith, nat_tests, c.in-Some.is, c.split_first.ensures, c.belongs_to_removed-is_removed.ensures, c.if-not-is_removed.true, c.as_bytes.ensures.value, c.is_greater_key.ensures, c.if-is_greater_key.true) in
    c.loop-rest.invariant.before _ (pushes_ended _ _ none)

pub loop-rest-preserved-else-is_greater_key : goal.loop-rest-preserved-else-is_greater_key
loop-rest-preserved-else-is_greater_key c =
    let greater = is_greater_key c.args.key.now in
    let first = c.split_first.result.0.now in
    let stays = remaining_subtags (wish_texts c.args.wish) c.belongs_to_removed-is_removed.result (segments_left c.split_first.result.1) in
    let all : first ∷ before_key greater stays ≡ before_key greater (remaining_subtags (wish_texts c.args.wish) c.loop-rest.is_removed (segments_left c.loop-rest.rest)) =
    grind (arith, nat_tests, c.in-Some.is, c.split_first.ensures, c.belongs_to_removed-is_removed.ensures, c.if-not-is_removed.true, c.as_bytes.ensures.value, c.is_greater_key.ensures, c.if-is_greater_key.false) in
    let later : from_greater c.args.key.now stays ≡ from_greater c.args.key.now (remaining_subtags (wish_texts c.args.wish) c.loop-rest.is_removed (segments_left c.loop-rest.rest)) =
    grind (arith, nat_tests, c.in-Some.is, c.split_first.ensures, c.belongs_to_removed-is_removed.ensures, c.if-not-is_removed.true, c.as_bytes.ensures.value, c.is_greater_key.ensures, c.if-is_greater_key.false) in
    record {
      before = λ new these.
          c.loop-rest.invariant.before new
          (pushes_same _ _ _ new all (pushes_next _ first (before_key greater stays) _ _ new c.as_bytes-then-not-is_removed.ensures.value c.push_subtag.ensures these));
      left = later ∙ c.loop-rest.invariant.left;
    }

pub loop-rest-preserved : goal.loop-rest-preserved
loop-rest-preserved c =
    let stays = remaining_subtags (wish_texts c.args.wish) c.belongs_to_removed-is_removed.result (segments_left c.split_first.result.1) in
    let same : stays ≡ remaining_subtags (wish_texts c.args.wish) c.loop-rest.is_removed (segments_left c.loop-rest.rest) =
    grind (arith, nat_tests, c.in-Some.is, c.split_first.ensures, c.belongs_to_removed-is_removed.ensures, c.if-not-is_removed.false) in
    record {
      before = λ new these. c.loop-rest.invariant.before new (pushes_same _ _ _ new (ap (before_key (is_greater_key c.args.key.now)) same) these);
      left = ap (from_greater c.args.key.now) same ∙ c.loop-rest.invariant.left;
    }

pub returns-clause-before : goal.returns-clause-before
returns-clause-before c =
    c.loop-rest.invariant.before _
    (pushes_ended _ _ (ap (λ r. before_key (is_greater_key c.args.key.now) (remaining_subtags (wish_texts c.args.wish) c.loop-rest.is_removed (segments_left r))) c.in_default.is))
