use Rattle.std.proofs.Common.{arith, ◌≡◌, ◌∙◌, ◌+◌, None, [], ◌++◌, take, drop, ap, sym, refl, subst, append-nil, append_assoc, take-append-drop, rules}
use Rattle.std.proofs.lemmas.Result.{err_from_is_err_and, on_ok_weaker}
use Rattle.std.specs.List.{position}
use Rattle.std.proofs.lemmas.Grind.{common_steps}
use Rattle.langtag_show.proofs.Written.{OnOk-by, free_lines, first_line, no_line, Answers-trans, Answers-same, Answers-held, Answers-empty, Answers-written, ends_line, leaves_line}
use Rattle.langtag_show.specs.Lines.{is_line_feed, ended}
use Rattle.langtag_show.proofs.run.take_bytes.Goals as goal

pub loop-len-init : goal.loop-len-init
loop-len-init g c =
    let line = g.L.GatheredLine.bytes c.args.line.now in (
      [],
      refl,
      rw append-nil (sym ((free_lines line c.requires.free).rest)),
      rw (append-nil line, (free_lines line c.requires.free).lines) (Answers-empty _ _ c.requires.written),
    )

pub returns-in_err-end_line-clause-memory : goal.returns-in_err-end_line-clause-memory
returns-in_err-end_line-clause-memory g c = λ memory.
    let (taken, are, rest, written) = c.loop-len.invariant in
    let p = err_from_is_err_and c.from_residual.result c.from_residual.ensures.1 in
    let left = c.loop-len.left.now in
    let end = take c.in-Some.len left in
    let after = drop c.in-Some.len left in
    let free = (first_line left c.in-Some.len (sym c.in-Some.ensures)).free in
    let read = append_assoc taken end after ∙ ap (λ l. taken ++ l) (take-append-drop c.in-Some.len left) ∙ are in
    let refused = subst (λ held. g.L.GatheredLine.refuses held end) rest (c.in_err-end_line.ensures.refused cc) in
    let stand = Answers-written _ _ _ _ _ written (c.in_err-end_line.ensures.memory cc) in
    record { taken = taken; more = end; after = after; read = read; free = free; refused = refused; written = stand }

pub loop-len-preserved : goal.loop-len-preserved
loop-len-preserved g c =
    let (taken, are, rest, written) = c.loop-len.invariant in
    let left = c.loop-len.left.now in
    let len = c.in-Some.len in
    let first = first_line left len (sym c.in-Some.ensures) in
    let ends = ends_line (g.L.GatheredLine.bytes c.args.line.now) taken (take len left) _ rest first.free in
    let more = ended (take len left) in
    let joined = append_assoc taken more (drop (len + 1) left) ∙ ap (λ l. taken ++ l) first.joined ∙ are in (
      taken ++ more,
      grind (arith, common_steps, joined),
      c.in_ok-end_line.ensures.cleared ∙ sym ends.rest,
      Answers-same _ _ _ _ (sym ends.lines) (Answers-trans _ _ _ _ _ written c.in_ok-end_line.ensures.ok),
    )

pub returns-in_err-gather-clause-memory : goal.returns-in_err-gather-clause-memory
returns-in_err-gather-clause-memory g c = λ memory.
    let (taken, are, rest, written) = c.loop-len.invariant in
    let p = err_from_is_err_and c.from_residual-in_err-gather.result c.from_residual-in_err-gather.ensures.1 in
    let left = c.loop-len.left.now in
    let none : position is_line_feed left ≡ None = search rules in
    let refused = subst (λ held. g.L.GatheredLine.refuses held left) rest (c.in_err-gather.ensures.refused cc) in
    let stand = Answers-written _ _ _ _ _ written (c.in_err-gather.ensures.memory cc) in
    let read = append-nil (taken ++ left) ∙ are in
    record { taken = taken; more = left; after = []; read = read; free = no_line left none; refused = refused; written = stand }

pub returns-clause-ok : goal.returns-clause-ok
returns-clause-ok g c =
    let (taken, are, rest, written) = c.loop-len.invariant in
    let left = c.loop-len.left.now in
    let none : position is_line_feed left ≡ None = search rules in
    let leaves = leaves_line (g.L.GatheredLine.bytes c.args.line.now) taken left c.args.bytes.now _ are rest (no_line left none) in
    let page = Answers-held _ _ _ _ c.in_ok-gather.ensures.kept (Answers-same _ _ _ _ (sym leaves.lines) written) in
    on_ok_weaker c.write_out.result (λ gained. Answers-written _ _ _ _ _ page gained) c.write_out.ensures.ok

pub returns-clause-rest : goal.returns-clause-rest
returns-clause-rest g c =
    let (taken, are, rest, written) = c.loop-len.invariant in
    let left = c.loop-len.left.now in
    let none : position is_line_feed left ≡ None = search rules in
    let leaves = leaves_line (g.L.GatheredLine.bytes c.args.line.now) taken left c.args.bytes.now _ are rest (no_line left none) in
    OnOk-by _ c.write_out.result (λ ok. c.in_ok-gather.ensures.gathered ∙ sym leaves.rest)
