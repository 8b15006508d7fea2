use Rattle.std.proofs.Common.{sym, ◌∙◌}
use Rattle.langtag_match.specs.FilterRule.{matches_by}
use Rattle.langtag_match.proofs.Found.{newly_found-here}
use Rattle.langtag_match.proofs.filter.next_found.Goals as goal

pub returns-then-is_newly_found : goal.returns-then-is_newly_found
returns-then-is_newly_found c = (c.loop-index-test.true, λ next is. c.loop-index.invariant ∙ newly_found-here (matches_by c.args.rule) c.args.before.now c.args.range c.args.tags.now c.loop-index.index c.index-tags-index.result next c.loop-index-test.true c.index-tags-index.is (sym c.is_newly_found.ensures ∙ c.if-is_newly_found.true) is)
