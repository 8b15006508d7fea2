use Rattle.std.proofs.lemmas.Grind.{common_steps}
use Rattle.std.proofs.Common.{arith}
use Rattle.langtag_locale.proofs.IdentifierTwice.{not_some}
use Rattle.langtag_locale.proofs.LocaleTables.{all_good, no_variants}
use Rattle.langtag_locale.proofs.locale_fields.language_with.Goals as goal

pub loop-rows-init : goal.loop-rows-init
loop-rows-init c = grind (arith, common_steps, c.args.language.now, c.variant_languages-rows.ensures, c.requires, all_good.languages)

pub returns-then-is_none : goal.returns-then-is_none
returns-then-is_none c = grind (arith, common_steps, not_some, c.is_none.ensures, c.args.language.now, no_variants, c.requires)
