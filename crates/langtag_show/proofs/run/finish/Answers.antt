use Rattle.std.proofs.Common.{◌≡◌, ◌<◌, length, sym, arith}
use Rattle.langtag_show.proofs.Written.{OnOk-by, Answers-nil, Answers-same, Answers-kept, Answers-written, Answers-from_empty, last_line-some, last_line-none}
use Rattle.langtag_show.proofs.run.finish.Goals as goal
use Rattle.langtag_show.proofs.run.finish.Goals.{then-not-is_empty+in_ok-put_answer+in_ok-write_out, else-not-is_empty}

pub returns-clause-ok : goal.returns-clause-ok
returns-clause-ok g c =
    let rest = c.args.rest.now in
    OnOk-by _ c.map_err.result (λ ok.
    Answers-kept _ _ _ _ (elim c.if-not-is_empty.branch [
      | then-not-is_empty+in_ok-put_answer+in_ok-write_out w ↦
          let full : 0 < length rest = grind arith in
          rw w.output-is (Answers-same _ _ _ _ (sym (last_line-some rest full)) (Answers-written _ _ _ _ _ (Answers-from_empty _ _ _ _ c.requires w.in_ok-put_answer.ensures.ok) w.in_ok-write_out.ensures.ok))
      | else-not-is_empty w ↦
          let empty : length rest ≡ 0 = grind arith in
          rw (w.output-is, last_line-none rest empty) (Answers-nil _)
    ]) c.flush.ensures.bytes)
