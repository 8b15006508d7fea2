use Rattle.langtag_scan.proofs.Prelude.{◌≡◌, sym, ◌∙◌, length_push}
use Rattle.std.proofs.lemmas.Slice.Zip.{zip_turn, zip_end}
use Rattle.langtag_scan.specs.Case.{case_cmp}
use Rattle.langtag_scan.proofs.CaseOrder.{case_cmp-tied, case_cmp-decided, case_cmp-ended, case_cmp-ends_first}
use Rattle.langtag_scan.proofs.case.case_insensitive_cmp.Goals as goal

pub returns-then-is_ne : goal.returns-then-is_ne
returns-then-is_ne c =
    let turn = zip_turn c.args.a.now c.args.b.now c.loop-x.yielded _ c.loop-x.x-iterator c.next.new.self _ (cc) (cc) c.loop-x.yielded_by _ c.in-Some.is c.next.ensures.steps in
    let order : c.cmp-order.result ≡ case_cmp c.args.a.now c.args.b.now =
    sym (c.loop-x.invariant ∙ case_cmp-decided _ _ _ _ _ c.cmp-order.result turn.0 turn.1 (turn.2 0) (turn.3 0) (cc) (sym c.is_ne.ensures ∙ c.if-is_ne.true)) in
    record { order = order; ends_first = λ ends. order ∙ case_cmp-ends_first _ _ c.type_inv.b ends }

pub loop-x-preserved : goal.loop-x-preserved
loop-x-preserved c =
    let turn = zip_turn c.args.a.now c.args.b.now c.loop-x.yielded _ c.loop-x.x-iterator c.next.new.self _ (cc) (cc) c.loop-x.yielded_by _ c.in-Some.is c.next.ensures.steps in
    rw length_push (c.loop-x.invariant ∙ case_cmp-tied _ _ _ _ _ c.cmp-order.result turn.0 turn.1 (turn.2 0) (turn.3 0) (cc) (sym c.is_ne.ensures ∙ c.if-is_ne.false))

pub returns-clause-order : goal.returns-clause-order
returns-clause-order c =
    let ended = zip_end c.args.a.now c.args.b.now c.loop-x.yielded _ c.loop-x.x-iterator c.next.new.self _ (cc) (cc) c.loop-x.yielded_by c.in-None.is c.next.ensures.steps in
    c.cmp.ensures ∙ sym (c.loop-x.invariant ∙ case_cmp-ended _ _ _ c.type_inv.a c.type_inv.b ended)
