use Rattle.std.proofs.Common.{◌≡◌, drop}
use Rattle.langtag_match.specs.Filter.{newly_found}
use Rattle.langtag_match.specs.FilterRule.{matches_by}
use Rattle.langtag_match.proofs.filter.next_found.Given as goal

-- no tag before the index is newly found
abbrev pub invariant-loop-index : goal.invariant-loop-index
invariant-loop-index l =
    newly_found (matches_by l.rule) l.before l.range (drop l.from l.tags) ≡ newly_found (matches_by l.rule) l.before l.range (drop l.index l.tags)
