use Rattle.langtag_keyword.proofs.Common.{◌<◌, arith, length, nat_tests}
use Rattle.langtag_keyword.specs.Keywords.{subtags_of}
use Rattle.langtag_c.specs.Keywords.{subtags_in}
use Rattle.langtag_c.proofs.ExtensionSpans.{length-span, up-to}
use Rattle.langtag_c.proofs.FoundExtension.{begins-with}
use Rattle.langtag_c.proofs.keyword.langtag_attributes.Goals as goal

pub returns-clause-place : goal.returns-clause-place
returns-clause-place c some r spells =
    let text = c.args.bytes.now in
    let subtags = c.extension_subtags-subtags in
    let is = subtags.ensures.subtags.part r spells in
    let before = c.before_key.ensures in
    let any : 0 < length (subtags_in text subtags.result) = grind (arith, nat_tests, length-span text c.before_key.result, before.text, before.within, some) in
    begins-with 117 text subtags.result c.before_key.result (subtags_of 117 r) r spells subtags.ensures.end any (up-to text subtags.result c.before_key.result.start (subtags_of 117 r) subtags.ensures.some.within is before.start)
