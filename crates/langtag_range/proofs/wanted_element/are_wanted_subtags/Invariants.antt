use Rattle.std.proofs.Common.{◌≡◌, ◌≤◌, drop, true}
use Rattle.langtag_range.proofs.PlainElements.{reads_on}
use Rattle.langtag_range.proofs.wanted_element.are_wanted_subtags.Given as goal

abbrev pub invariant-loop-byte : goal.invariant-loop-byte
invariant-loop-byte l = record {
  few : l.len ≤ 8;
  same : reads_on l.is_first l.len (drop l.byte-index l.text) ≡ reads_on true 0 l.text;
}
