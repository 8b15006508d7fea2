use Rattle.langtag_scan.proofs.Prelude.{◌≡◌, true, before_first}
use Rattle.langtag_scan.specs.Grammar.{is_variant}
use Rattle.langtag_range.specs.Definitions.{is_separator}
use Rattle.langtag_choice.proofs.VariantTexts.{next_variant}
use Rattle.langtag_choice.proofs.variants.split_variant.Goals as goal

pub returns-then-is_variant-clause-first : goal.returns-then-is_variant-clause-first
returns-then-is_variant-clause-first c =
    let left = c.loop-left.left.now in
    let is : is_variant (before_first is_separator left) ≡ true = cc (c.split_at_either.ensures.before, c.is_variant.ensures, c.if-is_variant.true) in
    cc (c.loop-left.invariant.same, next_variant left is, c.split_at_either.ensures.before, c.split_at_either.ensures.after)
