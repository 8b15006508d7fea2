use Rattle.std.proofs.Common.{◌∙◌, sym, subst}
use Rattle.langtag_choice.specs.Candidates.{IsNotAfter, rank_of}
use Rattle.langtag_choice.proofs.PutLaws.{before_all, turned_at_most}
use Rattle.langtag_choice.proofs.improve.is_first.Goals as goal

pub returns-in-Some-clause-first : goal.returns-in-Some-clause-first
returns-in-Some-clause-first c = λ yes r at.
    before_all (rank_of c.args.next.now) (rank_of c.in-Some.found) r (sym c.goes_before.ensures ∙ yes) (subst (λ o. IsNotAfter o r) c.in-Some.is at)

pub returns-in-Some-clause-later : goal.returns-in-Some-clause-later
returns-in-Some-clause-later c = λ no.
    subst (λ o. IsNotAfter o (rank_of c.args.next.now)) (sym c.in-Some.is) (turned_at_most (rank_of c.args.next.now) (rank_of c.in-Some.found) (sym c.goes_before.ensures ∙ no))
