use Rattle.langtag_scan.proofs.Prelude.{arith, nat_tests}
use Rattle.langtag_c.proofs.FoundExtension.{begins-with, found-none, found-some, nothing-in, some-in}
use Rattle.langtag_keyword.specs.Keywords.{subtags_of}
use Rattle.langtag_c.proofs.ExtensionSpans.{up-to}
use Rattle.langtag_c.proofs.transform.langtag_transform.Goals as goal

pub returns-then-subtags-eq0-clause-language : goal.returns-then-subtags-eq0-clause-language
returns-then-subtags-eq0-clause-language c =
    grind (arith, nat_tests, nothing-in c.args.bytes.now c.extension_subtags-subtags.result c.if-subtags-eq0.true, found-none)

pub returns-clause-language : goal.returns-clause-language
returns-clause-language c = grind (arith, nat_tests, some-in c.args.bytes.now c.extension_subtags-subtags.result, found-some)

pub returns-clause-place : goal.returns-clause-place
returns-clause-place c ok r spells =
    let text = c.args.bytes.now in
    let subtags = c.extension_subtags-subtags in
    let is = subtags.ensures.subtags.part r spells in
    let within = subtags.ensures.some.within in
    begins-with 116 text subtags.result c.before_key.result (subtags_of 116 r) r spells subtags.ensures.end (some-in text subtags.result (omega (arith, c.if-subtags-eq0.false)) within)
    (up-to text subtags.result c.before_key.result.start (subtags_of 116 r) within is c.before_key.ensures.start)
