use Rattle.langtag_keyword.proofs.Common.{◌≡◌, ◌∙◌, opens_keyword, arith, nat_tests}
use Rattle.langtag_c.specs.Keywords.{after_key, subtags_in}
use Rattle.langtag_c.proofs.ExtensionSpans.{up-to}
use Rattle.langtag_c.proofs.extension_walk.value_of.Goals as goal

pub returns-then-case_insensitive_eq-clause-place : goal.returns-then-case_insensitive_eq-clause-place
returns-then-case_insensitive_eq-clause-place c =
    let text = c.args.bytes.now in
    let is : subtags_in text c.take_subtag.new.rest ≡ after_key (opens_keyword c.args.keys) c.args.key.now (subtags_in text c.args.subtags) =
    grind (arith, nat_tests, c.loop-subtag.invariant.after, c.in-Some.ensures.subtags, c.has.ensures.is_key, c.if-has.true, c.case_insensitive_eq.ensures.alike, c.if-case_insensitive_eq.true) in
    up-to text c.take_subtag.new.rest c.before_key.result.start _ c.in-Some.ensures.left.within is c.before_key.ensures.start ∙ c.in-Some.ensures.end ∙ c.loop-subtag.invariant.ends
