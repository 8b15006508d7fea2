use Rattle.langtag_keyword.proofs.Common.{nat_tests, opens_keyword, arith}
use Rattle.langtag_c.proofs.ExtensionSpans.{span-before_key}
use Rattle.langtag_c.proofs.extension_walk.before_key.Goals as goal

pub returns : goal.returns
returns c =
    let before = span-before_key (opens_keyword c.args.keys) c.args.bytes.now c.args.subtags c.saturating_sub.result in
    grind (arith, nat_tests, before)
