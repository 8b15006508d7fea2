use Rattle.std.proofs.Common.{None, rules, subst, sym, ◌∙◌}
use Rattle.std.proofs.lemmas.List.{get_or_read}
use Rattle.langtag_choice.specs.Found.{IsBestFound}
use Rattle.langtag_choice.proofs.TurnLaws.{none_listed, only_best}
use Rattle.langtag_choice.proofs.by_tags.first_by_tags.Goals as goal

pub returns : goal.returns
returns g c =
    subst (IsBestFound (g.R.RangeList.elements c.args.ranges) (g.T.TagList.texts c.args.tags.now)) (sym (sym c.index-best-0.is ∙ get_or_read c.best_by_tags.new.best 0 c.index-best-0.result (search rules) c.index-best-0.is None))
    (only_best (g.R.RangeList.elements c.args.ranges) (g.T.TagList.texts c.args.tags.now) _ c.best_by_tags.new.best (none_listed 1) (search rules) c.best_by_tags.ensures)
