use Rattle.std.proofs.Common.{◌≡◌, ◌-◌, ◌==◌, ◌&&◌, ◌||◌, nat_lt, sym, ap, subst, ◌∙◌}
use Rattle.langtag_choice.specs.Serves.{reach}
use Rattle.langtag_choice.specs.Serves.{rank}
use Rattle.langtag_choice.specs.Candidates.{IsNotAfter}
use Rattle.langtag_choice.proofs.RankLaws.{reach_most, settled, settled_nearer}
use Rattle.langtag_choice.proofs.improve.limit.Goals as goal

pub returns-in-Some : goal.returns-in-Some
returns-in-Some c = λ element index tag weight near.
    let lacks : c.lack-lacking.result ≡ 1000 - element.weight = c.lack-lacking.ensures ∙ ap (λ n. 1000 - n) (sym weight) in
    subst (λ found. IsNotAfter found (rank c.args.place element index tag)) (sym c.in-Some.is)
    (settled c.in-Some.found c.args.place element index tag (c.least_distance.ensures (reach element.range tag) near)
    (ap (λ lack. nat_lt c.in-Some.found.rank.lack lack || ((c.in-Some.found.rank.lack == lack) && nat_lt c.in-Some.found.rank.place c.args.place)) (sym lacks)
    ∙ sym c.is_wanted_more.ensures ∙ c.if-is_wanted_more.true))

pub returns-in-Some-2 : goal.returns-in-Some-2
returns-in-Some-2 c = λ element index tag weight near.
    let lacks : c.lack-lacking.result ≡ 1000 - element.weight = c.lack-lacking.ensures ∙ ap (λ n. 1000 - n) (sym weight) in
    subst (λ found. IsNotAfter found (rank c.args.place element index tag)) (sym c.in-Some-2.is)
    (settled_nearer c.in-Some-2.found c.args.place element index tag (c.nearer_limit.ensures.service (reach element.range tag) near)
    (c.nearer_limit.ensures.nearer (reach element.range tag) near (reach_most element.range tag))
    (ap (λ lack. (c.in-Some-2.found.rank.lack == lack) && (c.in-Some-2.found.rank.place == c.args.place)) (sym lacks) ∙ sym c.is_for.ensures ∙ c.if-is_for.true))
