use Rattle.std.proofs.lemmas.Bool.Decides.{nat_tests}
use Rattle.langtag_keyword.proofs.Common.{[], arith, subst, HasText, with_subtag}
use Rattle.langtag_locale.proofs.ResolvedLaws.{capital-put, capitals-put}
use Rattle.langtag_locale.proofs.resolved_fields.push_uppercase.Goals as goal

pub loop-byte-preserved : goal.loop-byte-preserved
loop-byte-preserved c = λ first text has.
    subst (HasText first c.push.new.self) (capital-put (with_subtag text []) c.args.subtag.now c.loop-byte.byte-index c.to_ascii_uppercase.result c.loop-byte-test.true c.to_ascii_uppercase.ensures.value)
    (c.push.ensures first _ (c.loop-byte.invariant first text has))

pub returns : goal.returns
returns c = grind (arith, nat_tests, capitals-put, c.loop-byte-test.false, c.loop-byte.invariant)
