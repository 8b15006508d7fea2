use Rattle.std.proofs.Common.{◌≡◌, ◌∙◌, [], ◌++◌, length, take, length-take, ap, refl, sym, append-nil, arith, ◌≤◌}
use Rattle.std.proofs.lemmas.Result.{err_from_is_err_and, on_ok_weaker}
use Rattle.std.proofs.KnownBytes.{Consumes-nil, Consumes-trans, Consumes-whole}
use Rattle.langtag_show.specs.Lines.{complete_lines, rest_of, lines_of}
use Rattle.langtag_show.specs.Report.{AreWritten}
use Rattle.langtag_show.specs.declared.run.TheConstants.{BUFFER_LEN}
use Rattle.langtag_show.proofs.Written.{free_rest, more_lines, written_more, run_ended, run_stopped, stopped_more, written_all, Answers-nil}
use Rattle.langtag_show.proofs.run.run_in.Goals as goal

pub loop-init : goal.loop-init
unfolding complete_lines rest_of
loop-init g c = ([], Consumes-nil _, c.clear.ensures, c.new-page.ensures, Answers-nil _)

pub take_bytes-requires-clause-free : goal.take_bytes-requires-clause-free
take_bytes-requires-clause-free g c =
    let (seen, read, rest, empty, written) = c.loop.invariant in
    free_rest seen _ rest

pub loop-preserved : goal.loop-preserved
loop-preserved g c =
    let (seen, read, rest, empty, written) = c.loop.invariant in
    let more = take c.in-Ok.count c.read.new.buf in (
      seen ++ more,
      Consumes-trans _ _ _ _ _ read c.in-Ok.ensures.bytes.0,
      c.in_ok-take_bytes.ensures.rest ∙ sym (more_lines seen _ more rest).rest,
      c.in_ok-take_bytes.ensures.empty,
      written_more _ _ _ seen _ more rest written c.in_ok-take_bytes.ensures.ok,
    )

pub returns-in_err-take_bytes : goal.returns-in_err-take_bytes
returns-in_err-take_bytes g c =
    let (seen, read, rest, empty, written) = c.loop.invariant in
    let more = take c.in-Ok.count c.read.new.buf in
    let few : length more ≤ BUFFER_LEN = omega (arith, length-take c.in-Ok.count c.read.new.buf) in
    let (e, is, same_error) = err_from_is_err_and c.from_residual.result c.from_residual.ensures.1 in
    record {
      report = run_stopped _ _ _ _ _ _ e is (λ failed. c.in_err-take_bytes.ensures.other cc)
          (λ memory. (seen ++ more, Consumes-trans _ _ _ _ _ read c.in-Ok.ensures.bytes.0, (seen, more, refl, few, stopped_more _ _ _ _ seen _ more rest written (c.in_err-take_bytes.ensures.memory cc))));
    }

pub returns-then-count-eq0 : goal.returns-then-count-eq0
returns-then-count-eq0 g c =
    let (seen, read, rest, empty, written) = c.loop.invariant in
    let none : seen ++ take c.in-Ok.count c.read.new.buf ≡ seen = ap (λ n. seen ++ take n c.read.new.buf) c.if-count-eq0.true ∙ append-nil seen in
    let all = rw none at (Consumes-trans _ _ _ _ _ read c.in-Ok.ensures.bytes.0) in
    let end = c.in-Ok.ensures.bytes.1 c.if-count-eq0.true (omega arith) in
    let report =
    on_ok_weaker c.finish.result
    (λ last. Consumes-whole _ _ _ (λ i. AreWritten (g.W.Write.contents c.args.output.now) (g.W.Write.contents c.finish.new.output) (lines_of i)) all end
    (written_all _ _ _ seen _ rest written (rw c.as_bytes.ensures at last))) c.finish.ensures.ok in
    record {
      report = run_ended _ _ _ _ _ c.finish.result end report c.finish.ensures.err;
    }
