use Rattle.langtag_keyword.proofs.Common.{common_steps, arith, is_key}
use Rattle.langtag_keyword.proofs.WalkLaws.{value_of-alike}
use Rattle.langtag_unicode.proofs.unicode_extension.keyword.Goals as goal

pub returns-clause-value : goal.returns-clause-value
returns-clause-value c = grind (arith, common_steps)

pub returns-clause-any_case : goal.returns-clause-any_case
returns-clause-any_case c = value_of-alike is_key
