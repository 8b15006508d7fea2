use Rattle.std.proofs.Common.{rules}
use Rattle.langtag_c.proofs.ChoiceLaws.{choice_within, current_count}
use Rattle.langtag_c.proofs.site.langtag_site_best_for_ranges.Goals as goal

pub returns-clause-best : goal.returns-clause-best
returns-clause-best c =
    let count = current_count c.args.bytes.now c.args.tags.now in
    record { chosen = c.best_among.result; choice = c.best_among.ensures.choice; same = rw count (search rules) }

pub returns-clause-within : goal.returns-clause-within
returns-clause-within c =
    let count = current_count c.args.bytes.now c.args.tags.now in
    let within = choice_within _ _ _ c.best_among.result count c.best_among.ensures.choice in
    search (rules, within)
