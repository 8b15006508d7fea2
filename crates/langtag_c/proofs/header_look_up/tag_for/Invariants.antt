use Rattle.std.proofs.Common.{◌≡◌}
use Rattle.langtag_range.specs.Fallback.{fallbacks}
use Rattle.langtag_match.specs.Text.{language_range_text, fallbacks_left}
use Rattle.langtag_c.specs.LookUp.{first_index_alike}
use Rattle.langtag_c.specs.TagsAt.{tags_at}
use Rattle.langtag_c.proofs.header_look_up.tag_for.Given as goal

abbrev pub invariant-loop-fallback : goal.invariant-loop-fallback
invariant-loop-fallback l = record {
  can_next : (goal.iterator-loop-fallback).can_next l.fallback-iterator;
  is_finite : (goal.iterator-loop-fallback).is_finite l.fallback-iterator;
  same : first_index_alike (tags_at l.bytes l.spans) (fallbacks_left l.fallback-iterator)
      ≡ first_index_alike (tags_at l.bytes l.spans) (fallbacks (language_range_text l.fn.range));
}
