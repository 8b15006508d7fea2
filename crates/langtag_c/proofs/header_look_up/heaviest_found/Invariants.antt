use Rattle.std.proofs.Common.{◌≡◌, None}
use Rattle.langtag_c.specs.Spans.{IsWithin, span_text}
use Rattle.langtag_c.specs.Negotiation.{filled_items}
use Rattle.langtag_match.specs.AcceptLanguage.{elements}
use Rattle.langtag_range.specs.Element.{items}
use Rattle.langtag_c.specs.Heaviest.{heaviest}
use Rattle.langtag_c.specs.TagsAt.{tags_at}
use Rattle.langtag_c.proofs.header_look_up.heaviest_found.Given as goal

-- what is left of the header, from what was found on
abbrev pub invariant-loop-item : goal.invariant-loop-item
invariant-loop-item l = record {
  within : IsWithin l.header l.rest;
  same : heaviest (tags_at l.bytes l.spans) (elements (filled_items (span_text l.header l.rest))) l.found l.weight
      ≡ heaviest (tags_at l.bytes l.spans) (elements (items l.header)) None 0;
}

abbrev pub decreases-loop-item : goal.decreases-loop-item
decreases-loop-item l = l.rest.len
