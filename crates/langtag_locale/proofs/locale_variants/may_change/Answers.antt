use Rattle.std.proofs.Common.{sym, ◌∙◌}
use Rattle.langtag_locale.proofs.KeptVariants.{kept}
use Rattle.langtag_locale.proofs.locale_variants.may_change.Goals as goal

pub returns : goal.returns
returns c = λ absent variant is. kept variant c.args.number is (sym c.contains.ensures.value ∙ absent)
