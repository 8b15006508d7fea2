use Rattle.std.proofs.Common.{◌∙◌, rules}
use Rattle.langtag_posix.proofs.posix_text.put_text.Goals as goal

pub returns : goal.returns
returns c =
    let has = c.push_text.ensures _ _ c.new-out.ensures in
    record { counted = c.len.ensures ∙ has.counted; written = λ fits. search (rules, has.same_buffer, has.written fits) }
