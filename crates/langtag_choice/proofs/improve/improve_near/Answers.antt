use Rattle.std.proofs.Common.{refl}
use Rattle.langtag_choice.proofs.RankLaws.{taken}
use Rattle.langtag_choice.proofs.improve.improve_near.Goals as goal

pub returns-then-is_first : goal.returns-then-is_first
returns-then-is_first c =
    taken c.args.wish.now c.args.tag c.args.index c.args.found.now c.in-Some.next (c.is_first.ensures.first c.if-is_first.true)
    ((c.in-Some.ensures.pair c.in-Some.next refl).0, (c.in-Some.ensures.pair c.in-Some.next refl).1, c.in-Some.ensures.candidate)
