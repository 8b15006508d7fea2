use Rattle.langtag_keyword.proofs.Common.{filter, sym, subst, ◌∙◌, pushes_same, subtags, keyword_form, canonical_value_of, opens_keyword, key_of}
use Rattle.std.specs.List.{All}
use Rattle.langtag_keyword.specs.Least.{is_within}
use Rattle.langtag_keyword.proofs.KeySetLaws.{are-keys}
use Rattle.langtag_keyword.proofs.LeastTexts.{NamesKey, keys-fit, named-in_order, put-keys_in_order, rounds-ended, rounds-first, rounds-kept, rounds-next, rounds-smaller}
use Rattle.langtag_keyword.proofs.keyword_form.push_with_room.Goals as goal

pub loop-more-init : goal.loop-more-init
loop-more-init g c =
    let ss = subtags c.args.text.now in
    let keys = filter (opens_keyword c.args.keys) ss in
    rounds-first (λ n. keyword_form (opens_keyword c.args.keys) (canonical_value_of c.args.keys) ss (key_of n)) keys _ _ (keys-fit keys (are-keys c.args.keys ss c.requires.subtags)) c.new-least.ensures.empty
    c.new-least.ensures.last

-- each number that is kept is that of a key
pub push_each-requires-clause-numbers : goal.push_each-requires-clause-numbers
push_each-requires-clause-numbers g c =
    let ss = subtags c.args.text.now in
    let keys = filter (opens_keyword c.args.keys) ss in
    let offered = c.offer_keys.new.least in
    subst (All NamesKey) (sym (c.kept.ensures ∙ rounds-kept c.loop-more.invariant offered c.sort.new.self c.loop-more-test.true c.offer_keys.ensures c.sort.ensures.kept))
    (named-in_order (is_within offered.last offered.limit) keys (are-keys c.args.keys ss c.requires.subtags))

pub loop-more-preserved : goal.loop-more-preserved
loop-more-preserved g c =
    rounds-next c.loop-more.invariant c.sort.new.self c.advance-more.new.self c.loop-more-test.true c.offer_keys.ensures c.sort.ensures.kept c.sort.ensures.limit
    c.advance-more.ensures.next _ _ _ c.advance-more.ensures.empty c.advance-more.ensures.more c.kept.ensures c.push_each.ensures

pub loop-more-smaller : goal.loop-more-smaller
loop-more-smaller g c =
    rounds-smaller c.loop-more.invariant c.sort.new.self c.advance-more.new.self c.loop-more-test.true c.offer_keys.ensures c.sort.ensures.kept c.sort.ensures.limit c.advance-more.ensures.next

pub returns : goal.returns
returns g c =
    let ss = subtags c.args.text.now in
    pushes_same _ _ _ _
    (put-keys_in_order (keyword_form (opens_keyword c.args.keys) (canonical_value_of c.args.keys) ss) (filter (opens_keyword c.args.keys) ss) (are-keys c.args.keys ss c.requires.subtags))
    (rounds-ended c.loop-more.invariant c.loop-more-test.false)
