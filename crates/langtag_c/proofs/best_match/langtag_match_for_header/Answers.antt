use Rattle.langtag_scan.proofs.Prelude.{None, Some, refl, arith, nat_tests, length-map}
use Rattle.langtag_match.specs.Wanted.{wanted_elements}
use Rattle.langtag_c.proofs.ChoiceLaws.{choice_within, is_best, is_match_at, is_match_of}
use Rattle.langtag_c.proofs.TagsAt.{are_tags_at}
use Rattle.langtag_c.specs.TagsAt.{tag_at, tags_at}
use Rattle.langtag_c.proofs.best_match.langtag_match_for_header.Goals as goal

pub returns-in_default-clause-found : goal.returns-in_default-clause-found
returns-in_default-clause-found c =
    grind (arith, nat_tests, are_tags_at c.args.bytes.now c.args.tags.now, c.in_default.ensures.found)

pub returns-in_default-clause-best : goal.returns-in_default-clause-best
returns-in_default-clause-best c = is_best (wanted_elements c.args.header.now) c.args.bytes.now c.args.tags.now None _ c.in_default.ensures.choice refl

pub returns-clause-found : goal.returns-clause-found
returns-clause-found c =
    let of_tags = is_match_of c.args.header.now (tags_at c.args.bytes.now c.args.tags.now) c.in-Some.chosen c.range_at.result in
    grind (arith, nat_tests, is_match_at c.args.header.now c.args.bytes.now c.args.tags.now, of_tags)

pub returns-clause-best : goal.returns-clause-best
returns-clause-best c = is_best (wanted_elements c.args.header.now) c.args.bytes.now c.args.tags.now (Some c.in-Some.chosen.index) _ c.in-Some.ensures.choice refl

pub returns-clause-within : goal.returns-clause-within
returns-clause-within c =
    let same = length-map c.args.tags.now (tag_at c.args.bytes.now) in
    choice_within _ _ _ (Some c.in-Some.chosen.index) same c.in-Some.ensures.choice
