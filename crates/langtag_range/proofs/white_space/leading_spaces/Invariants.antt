use Rattle.std.proofs.Common.{◌≡◌, ◌≤◌, ◌-◌, IsTrue, drop, length, take}
use Rattle.langtag_range.specs.Element.{from_first, is_ows}
use Rattle.langtag_range.proofs.white_space.leading_spaces.Given as goal

abbrev pub invariant-loop-start : goal.invariant-loop-start
invariant-loop-start l = record {
  within : l.start ≤ length l.text;
  space : IsTrue (is_ows (take l.start l.text));
  rest : from_first (drop l.start l.text) ≡ from_first l.text;
}

abbrev pub decreases-loop-start : goal.decreases-loop-start
decreases-loop-start l = length l.text - l.start
