use Rattle.std.proofs.Common.{◌≡◌, ◌≤◌, ◌-◌, ◌++◌, drop, length, take}
use Rattle.langtag_cldr.specs.Definitions.{base_text}
use Rattle.langtag_cldr.proofs.replacement.base.Given as goal

-- the bytes up to here, and the base of the bytes from here on
abbrev pub invariant-loop-len : goal.invariant-loop-len
invariant-loop-len l = record {
  within : l.len ≤ length l.text;
  same : take l.len l.text ++ base_text (drop l.len l.text) ≡ base_text l.text;
}

abbrev pub decreases-loop-len : goal.decreases-loop-len
decreases-loop-len l = length l.text - l.len
