use Rattle.std.proofs.Common.{◌≡◌, drop}
use Rattle.langtag_c.specs.Answers.{digits_number}
use Rattle.langtag_c.proofs.DateLaws.{continued}
use Rattle.langtag_c.proofs.registry_date.number_of.Given as goal

-- the digits that are left complete the number
abbrev pub invariant-loop-byte : goal.invariant-loop-byte
invariant-loop-byte l = continued l.number (drop l.byte-index l.date) ≡ digits_number l.date
