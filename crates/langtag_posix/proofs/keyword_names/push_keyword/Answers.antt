use Rattle.std.proofs.Common.{arith, append_assoc}
use Rattle.langtag_posix.proofs.keyword_names.push_keyword.Goals as goal

pub returns : goal.returns
returns c = λ first text is.
    let pushed = c.push-4.ensures first _ (c.push-3.ensures first _ (c.push-2.ensures first _ (c.push.ensures first text is))) in
    grind (arith, pushed, append_assoc, c.key_and_type.ensures)
