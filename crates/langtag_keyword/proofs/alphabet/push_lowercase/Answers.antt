use Rattle.std.proofs.lemmas.Bool.Decides.{nat_tests}
use Rattle.langtag_keyword.proofs.Common.{[], sym, subst, arith, append-nil, HasText, with_subtag}
use Rattle.langtag_keyword.proofs.AlphabetLaws.{byte-put, bytes-put}
use Rattle.langtag_keyword.proofs.alphabet.push_lowercase.Goals as goal

pub loop-byte-init : goal.loop-byte-init
loop-byte-init c = λ first text has. subst (HasText first c.push_subtag.new.self) (sym (append-nil (with_subtag text []))) (c.push_subtag.ensures first text has)

pub loop-byte-preserved : goal.loop-byte-preserved
loop-byte-preserved c = λ first text has.
    subst (HasText first c.push.new.self)
    (byte-put (with_subtag text []) c.args.subtag.now c.as_bytes-byte-items.result.now c.loop-byte.byte-index c.into_smallcase.result c.as_bytes-byte-items.ensures.value c.loop-byte-test.true c.into_smallcase.ensures)
    (c.push.ensures first _ (c.loop-byte.invariant first text has))

pub returns : goal.returns
returns c = grind (arith, nat_tests, bytes-put, c.loop-byte-test.false, c.loop-byte.invariant)
