use Rattle.std.proofs.Common.{◌&&◌, nat_le, nat_lt}
use Rattle.langtag_choice.specs.Found.{AddsNothing}
use Rattle.langtag_choice.proofs.known_at.next_near.Given as goal

abbrev pub invariant-loop-index : goal.invariant-loop-index
invariant-loop-index g l = AddsNothing l.wish (g.T.TagList.texts l.tags) (λ there. nat_le l.from there && nat_lt there l.index)
