use Rattle.std.proofs.Common.{◌≡◌, ◌<◌, IsTrue, [], length}
use Rattle.langtag_scan.specs.Grammar.{is_extended}
use Rattle.langtag_cldr.specs.TextFields.{after_language, last_language, counted_parts}
use Rattle.langtag_cldr.proofs.text_fields.last_extended.Given as goal

abbrev pub invariant-loop-subtag : goal.invariant-loop-subtag
invariant-loop-subtag l = record {
  language : last_language l.language (counted_parts l.left) ≡ last_language [] (counted_parts l.text);
  rest : after_language (counted_parts l.left) ≡ after_language (counted_parts l.text);
  in_class : 0 < length l.language → IsTrue (is_extended l.language);
}

abbrev pub decreases-loop-subtag : goal.decreases-loop-subtag
decreases-loop-subtag l = length (counted_parts l.left)
