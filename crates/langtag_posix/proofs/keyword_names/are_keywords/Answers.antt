use Rattle.std.proofs.Common.{arith}
use Rattle.std.proofs.lemmas.Bool.Decides.{nat_tests}
use Rattle.langtag_posix.proofs.KeywordNameLaws.{no_keywords}
use Rattle.langtag_posix.proofs.keyword_names.are_keywords.Goals as goal

pub returns-else-not-is_empty : goal.returns-else-not-is_empty
returns-else-not-is_empty c = grind (arith, nat_tests, no_keywords, c.is_empty.ensures, c.if-not-is_empty.false)
