use Rattle.std.proofs.Common.{◌≡◌, map, drop}
use Rattle.langtag_match.specs.LookUp.{choice}
use Rattle.langtag_match.specs.Text.{language_range_text}
use Rattle.langtag_match.proofs.lookup.look_up.Given as goal

abbrev pub invariant-loop-range : goal.invariant-loop-range
invariant-loop-range l =
    choice l.tags l.default (map language_range_text (drop l.range-index l.ranges)) ≡ choice l.tags l.default (map language_range_text l.ranges)
