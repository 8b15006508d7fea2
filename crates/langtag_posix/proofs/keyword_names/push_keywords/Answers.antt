use Rattle.std.proofs.Common.{arith, append_assoc}
use Rattle.langtag_posix.proofs.keyword_names.push_keywords.Goals as goal

pub returns-then-are_keywords : goal.returns-then-are_keywords
returns-then-are_keywords c = λ first text is.
    let pushed = c.push_each.ensures first _ (c.push.ensures first text is) in
    grind (arith, pushed, append_assoc, c.are_keywords.ensures, c.if-are_keywords.true)
