use Rattle.langtag_scan.proofs.Prelude.{rules, length-map}
use Rattle.langtag_c.specs.TagsAt.{tag_at}
use Rattle.langtag_match.specs.Wanted.{wanted_elements}
use Rattle.langtag_c.proofs.ChoiceLaws.{choice_within, is_best}
use Rattle.langtag_c.proofs.choice.langtag_best_for_header.Goals as goal

pub returns-clause-best : goal.returns-clause-best
returns-clause-best c = is_best (wanted_elements c.args.header.now) c.args.bytes.now c.args.tags.now c.best_among.result _ c.best_among.ensures.choice (search rules)

pub returns-clause-within : goal.returns-clause-within
returns-clause-within c =
    let same = length-map c.args.tags.now (tag_at c.args.bytes.now) in
    let within = choice_within _ _ _ c.best_among.result same c.best_among.ensures.choice in
    search (rules, within)
