use Rattle.langtag_keyword.proofs.WalkLaws.{keyword-listed}
use Rattle.langtag_unicode.proofs.unicode_extension.keywords.Goals as goal

pub returns-clause-listed : goal.returns-clause-listed
returns-clause-listed c = keyword-listed
