use Rattle.langtag_scan.proofs.Prelude.{arith, append_assoc, common_steps, nat_tests}
use Rattle.langtag_posix.proofs.posix_text.push_posix_extensions.Goals as goal

pub returns-then-not-is_empty : goal.returns-then-not-is_empty
returns-then-not-is_empty c = λ first text is.
    let pushed = c.push-then-not-is_empty.ensures first _ (c.push.ensures first text is) in
    grind (arith, common_steps, nat_tests, pushed, append_assoc, c.is_empty.ensures, c.if-not-is_empty.true)
