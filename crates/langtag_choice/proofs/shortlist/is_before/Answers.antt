use Rattle.std.proofs.Common.{◌∙◌, sym, subst}
use Rattle.langtag_choice.specs.Candidates.{IsNotAfter, rank_of}
use Rattle.langtag_choice.proofs.PutLaws.{before_all, not_before}
use Rattle.langtag_choice.proofs.shortlist.is_before.Goals as goal

pub returns-in-Some-Some-clause-before : goal.returns-in-Some-Some-clause-before
returns-in-Some-Some-clause-before c = λ yes r at.
    subst (λ o. IsNotAfter o r) (sym c.in-Some-Some.is-0)
    (before_all (rank_of c.in-Some-Some.next) (rank_of c.in-Some-Some.other) r (sym c.goes_before.ensures ∙ yes) (subst (λ o. IsNotAfter o r) c.in-Some-Some.is-1 at))

pub returns-in-Some-Some-clause-after : goal.returns-in-Some-Some-clause-after
returns-in-Some-Some-clause-after c = λ no r at.
    subst (λ o. IsNotAfter o r) (sym c.in-Some-Some.is-1)
    (not_before (rank_of c.in-Some-Some.next) (rank_of c.in-Some-Some.other) r (sym c.goes_before.ensures ∙ no) (subst (λ o. IsNotAfter o r) c.in-Some-Some.is-0 at))
