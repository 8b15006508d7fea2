use Rattle.langtag_scan.proofs.Prelude.{rules, length-map}
use Rattle.langtag_c.specs.TagsAt.{tag_at}
use Rattle.langtag_c.specs.Spanned.{ranges_at}
use Rattle.langtag_c.proofs.ChoiceLaws.{choice_within, is_best}
use Rattle.langtag_c.proofs.choice.langtag_best_for_ranges.Goals as goal

pub returns-clause-best : goal.returns-clause-best
returns-clause-best c = is_best (ranges_at c.args.text.now c.args.ranges.now) c.args.bytes.now c.args.tags.now c.best_among.result _ c.best_among.ensures.choice (search rules)

pub returns-clause-within : goal.returns-clause-within
returns-clause-within c =
    let same = length-map c.args.tags.now (tag_at c.args.bytes.now) in
    let within = choice_within _ _ _ c.best_among.result same c.best_among.ensures.choice in
    search (rules, within)
