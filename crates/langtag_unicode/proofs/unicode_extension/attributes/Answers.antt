use Rattle.langtag_keyword.proofs.Common.{common_steps, arith}
use Rattle.langtag_keyword.proofs.SubtagTexts.{subtags-before_key}
use Rattle.langtag_unicode.proofs.unicode_extension.attributes.Goals as goal

pub returns-clause-list : goal.returns-clause-list
returns-clause-list c = grind (arith, common_steps, subtags-before_key)
