use Rattle.langtag_keyword.proofs.Common.{◌≡◌, true, length, take, sum_by}
use Rattle.langtag_match.specs.AcceptLanguage.{are_good}
use Rattle.langtag_range.specs.Element.{items}
use Rattle.langtag_c.proofs.TagsAt.{width}
use Rattle.langtag_c.proofs.header_look_up.first_bad.Given as goal

-- what was passed over is good, and ends with a comma
abbrev pub invariant-loop-item : goal.invariant-loop-item
invariant-loop-item l = record {
  begins : l.start ≡ sum_by width (take (length l.yielded) (items l.header));
  good : are_good (take (length l.yielded) (items l.header)) ≡ true;
}
