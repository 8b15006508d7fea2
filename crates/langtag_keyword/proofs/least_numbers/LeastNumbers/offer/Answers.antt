use Rattle.std.proofs.Common.{◌-◌, ◌/◌, ◌∷◌, [], take, get_or, subst, arith}
use Rattle.langtag_keyword.specs.Least.{IsOffered}
use Rattle.langtag_keyword.proofs.LeastLaws.{filled, offered_all, offered_half}
use Rattle.langtag_keyword.proofs.least_numbers.LeastNumbers.offer.Goals as goal

pub returns-then-self-2 : goal.returns-then-self-2
returns-then-self-2 g c =
    let old = c.self.inside in
    let ns = c.settle-self-inside.new.numbers in
    let count = c.settle-self-inside.result in
    let half = g.row.ROOM / 2 in
    let settled = filled old.numbers old.count c.args.number (take count ns) (omega (arith, c.self.told, c.self.invariant.0, c.if-self.false)) c.settle-self-inside.ensures.settled in
    subst (λ least. IsOffered (c.args.number ∷ []) least (record { last = old.last; limit = get_or ns (half - 1) 0; kept = take half ns })) c.self.view_is
    (offered_half old.last old.limit c.args.number (take old.count old.numbers) ns count c.if-number-self.false c.if-number-self-2.false settled half (half - 1)
    (omega (arith, c.self.invariant.1)) (omega (arith, c.if-self-2.true)) (omega (arith, c.settle-self-inside.ensures.within, c.settle-self-inside.ensures.len)))

pub returns-else-self-2 : goal.returns-else-self-2
returns-else-self-2 g c =
    let old = c.self.inside in
    let ns = c.settle-self-inside.new.numbers in
    let count = c.settle-self-inside.result in
    let settled = filled old.numbers old.count c.args.number (take count ns) (omega (arith, c.self.told, c.self.invariant.0, c.if-self.false)) c.settle-self-inside.ensures.settled in
    subst (λ least. IsOffered (c.args.number ∷ []) least (record { last = old.last; limit = old.limit; kept = take count ns })) c.self.view_is
    (offered_all old.last old.limit c.args.number (take old.count old.numbers) ns count c.if-number-self.false c.if-number-self-2.false settled)
