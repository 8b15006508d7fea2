use Rattle.langtag_keyword.proofs.Common.{◌≡◌, subst, arith, nat_tests, ends_of, EachRecord}
use Rattle.langtag_c.proofs.FoundExtension.{extensions-end, extensions-span}
use Rattle.langtag_c.proofs.extension_walk.extensions_of.Goals as goal

pub returns-clause-text : goal.returns-clause-text
returns-clause-text c =
    let tag = c.in_ok-normal_tag_of.ensures in
    (extensions-span c.args.bytes.now c.ends-ends.result c.between.result tag.1 (subst (λ t. EachRecord t (λ r. c.ends-ends.result ≡ ends_of r)) tag.0 c.ends-ends.ensures) c.between.ensures.span c.between.ensures.ends).0

pub returns-clause-within : goal.returns-clause-within
returns-clause-within c = grind (arith, nat_tests, extensions-span c.args.bytes.now c.ends-ends.result c.between.result)

pub returns-clause-end : goal.returns-clause-end
returns-clause-end c =
    let tag = c.in_ok-normal_tag_of.ensures in
    extensions-end c.args.bytes.now c.ends-ends.result c.between.result tag.1 (subst (λ t. EachRecord t (λ r. c.ends-ends.result ≡ ends_of r)) tag.0 c.ends-ends.ensures) c.between.ensures.ends
