use Rattle.langtag_scan.proofs.Prelude.{arith, append_assoc}
use Rattle.langtag_posix.proofs.posix_text.push_text.Goals as goal

pub returns : goal.returns
returns c = λ first text is.
    let pushed = c.push_keywords.ensures first _ (c.push_posix_extensions.ensures first _ (c.push.ensures first text is)) in
    grind (arith, pushed, append_assoc)
