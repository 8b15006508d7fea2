use Rattle.std.proofs.lemmas.Bool.Decides.{nat_tests}
use Rattle.langtag_keyword.proofs.Common.{arith, common_steps}
use Rattle.langtag_keyword.proofs.SubtagTexts.{extension-some, nothing-some}
use Rattle.langtag_unicode.proofs.transform_extension.transform.Goals as goal

pub returns-in_err-text-clause-first : goal.returns-in_err-text-clause-first
returns-in_err-text-clause-first c =
    grind (arith, nat_tests, c.from_residual-in_err-text.ensures, extension-some 116, c.extension_text.ensures.subtags.part, c.in_err-text.ensures.same_text)

pub returns-clause-first : goal.returns-clause-first
returns-clause-first c = grind (arith, common_steps, extension-some, nothing-some)
