use Rattle.std.proofs.Common.{None, Some, rules, subst, sym, ◌∙◌}
use Rattle.std.proofs.lemmas.List.{get_or_read}
use Rattle.langtag_choice.specs.Candidates.{Keeps}
use Rattle.langtag_choice.proofs.PutLaws.{place_for, puts, puts_none, stays_worst}
use Rattle.langtag_choice.proofs.shortlist.put.Goals as goal

pub returns-clause-puts : goal.returns-clause-puts
returns-clause-puts c =
    puts c.args.candidate c.args.best.now c.args.worst c.unwrap_or-place.result c.requires.last (place_for c.args.candidate _ _ _ c.place_of.result c.unwrap_or-place.ensures c.place_of.ensures) (search rules)
    (subst (λ o. Keeps o (Some c.args.candidate)) (sym c.index-best-place.is ∙ get_or_read c.args.best.now c.unwrap_or-place.result c.index-best-place.result (search rules) c.index-best-place.is None) (c.is_before.ensures.before c.if-not-is_before.false))

pub returns-then-not-is_before-clause-puts : goal.returns-then-not-is_before-clause-puts
returns-then-not-is_before-clause-puts c =
    puts_none c.args.candidate c.args.best.now c.args.worst c.unwrap_or-place.result c.requires.last (place_for c.args.candidate _ _ _ c.place_of.result c.unwrap_or-place.ensures c.place_of.ensures)
    (subst (λ o. Keeps (Some c.args.candidate) o) (sym c.index-best-place.is ∙ get_or_read c.args.best.now c.unwrap_or-place.result c.index-best-place.result (search rules) c.index-best-place.is None) (c.is_before.ensures.after c.if-not-is_before.true))

pub worst_after-requires-clause-stays : goal.worst_after-requires-clause-stays
worst_after-requires-clause-stays c =
    stays_worst c.args.candidate c.args.best.now c.args.worst c.unwrap_or-place.result c.requires.last (place_for c.args.candidate _ _ _ c.place_of.result c.unwrap_or-place.ensures c.place_of.ensures) (search rules)
    (subst (λ o. Keeps o (Some c.args.candidate)) (sym c.index-best-place.is ∙ get_or_read c.args.best.now c.unwrap_or-place.result c.index-best-place.result (search rules) c.index-best-place.is None) (c.is_before.ensures.before c.if-not-is_before.false))
