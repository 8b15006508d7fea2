use Rattle.langtag_keyword.proofs.Common.{arith, nat_tests}
use Rattle.langtag_keyword.proofs.SubtagTexts.{before_key-more, length-before_key}
use Rattle.langtag_c.proofs.ExtensionSpans.{length-spanned}
use Rattle.langtag_c.proofs.extension_walk.len_before_key.Goals as goal

pub overflow_add-len-in-Some : goal.overflow_add-len-in-Some
overflow_add-len-in-Some c = grind (arith, nat_tests, length-before_key, length-spanned, before_key-more)
