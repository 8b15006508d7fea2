use Rattle.std.proofs.Common.{None, Some, true, refl}
use Rattle.langtag_choice.proofs.FoundLaws.{best_found}
use Rattle.langtag_choice.proofs.best.best.Goals as goal

pub returns-then-is_chosen : goal.returns-then-is_chosen
returns-then-is_chosen g c =
    best_found _ _ (λ place index. true) (Some c.in_ok-found.found) (rw c.in_ok-found.was at c.first_by_ranges-has_zero.ensures.first) (λ place index free. refl) (λ found is tried. cc (c.is_chosen.ensures c.if-is_chosen.true))

pub returns-in_err-found : goal.returns-in_err-found
returns-in_err-found g c =
    rw (c.from_residual.ensures) (best_found (g.R.RangeList.elements c.args.ranges) (g.T.TagList.texts c.args.tags.now) (λ place index. true) None (rw c.in_err-found.was at c.first_by_ranges-has_zero.ensures.first) (λ place index free. refl) (λ found is. absurd cc))
