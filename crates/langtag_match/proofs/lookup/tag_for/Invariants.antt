use Rattle.std.proofs.Common.{◌≡◌}
use Rattle.langtag_range.specs.Fallback.{fallbacks}
use Rattle.langtag_match.specs.LookUp.{first_alike}
use Rattle.langtag_match.specs.Text.{language_range_text, fallbacks_left}
use Rattle.langtag_match.proofs.lookup.tag_for.Given as goal

abbrev pub invariant-loop-fallback : goal.invariant-loop-fallback
invariant-loop-fallback l = record {
  can_next : (goal.iterator-loop-fallback).can_next l.fallback-iterator;
  is_finite : (goal.iterator-loop-fallback).is_finite l.fallback-iterator;
  same : first_alike l.tags (fallbacks_left l.fallback-iterator) ≡ first_alike l.tags (fallbacks (language_range_text l.fn.range));
}
