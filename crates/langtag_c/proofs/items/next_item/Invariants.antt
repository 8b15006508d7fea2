use Rattle.std.proofs.Common.{◌≡◌, ◌≤◌}
use Rattle.langtag_c.specs.Negotiation.{filled_items}
use Rattle.langtag_c.specs.Spans.{end_of, span_text}
use Rattle.langtag_c.proofs.items.next_item.Given as goal

-- what was passed over was empty
abbrev pub invariant-loop-list : goal.invariant-loop-list
invariant-loop-list l = record {
  kept : l.rest ≡ l.initial.rest;
  begins : l.initial.left.start ≤ l.left.start;
  ends : end_of l.left ≡ end_of l.initial.left;
  same : filled_items (span_text l.header l.left) ≡ filled_items (span_text l.header l.initial.left);
}

abbrev pub decreases-loop-list : goal.decreases-loop-list
decreases-loop-list l = l.left.len
