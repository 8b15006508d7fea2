-- What a step removes from a language range (RFC 4647 section 3.4) and from an Accept-Language header (RFC 9110 section
-- 12.5.4).
use Rattle.std.specs.Prelude.{◌≡◌, ℕ, ◌≤◌, IsTrue, Bool, not, List, [], ◌∷◌, Some, None, filter, if◌then◌else◌, slice_range}
use Rattle.langtag_match.specs.AcceptLanguage.{bad_part}
use Rattle.langtag_range.specs.Definitions.{element, is_ows, items, trimmed, fallbacks}
use Rattle.langtag_match.specs.declared.accept_language_error.ElementPart.{ElementPart}
use Rattle.langtag_c.specs.Spans.{HasBytes, end_of, span_between, span_text}
use Rattle.langtag_c.specs.declared.span.Span.{Span}

-- the fallbacks of a range without the range itself: the fallbacks of the shortened text, if any text is left
abbrev pub later_fallbacks : Bool → List ℕ → List (List ℕ)
later_fallbacks is_left left = if is_left then fallbacks left else []

-- the items of a list, which are separated by commas, without the empty items (section 5.6.1.2)
abbrev pub filled_items : List ℕ → List (List ℕ)
filled_items header = filter (λ item. not (is_ows item)) (items header)

-- the first item is removed from the span `before`; the span `after` begins after the item's comma
pub record TakesItem (header : List ℕ) (before after item : Span) : Type 0 where
  pub has_bytes : HasBytes header before
  pub begins : before.start ≤ item.start
  pub within : end_of item ≤ end_of before
  pub items : filled_items (span_text header before) ≡ span_text header item ∷ filled_items (span_text header after)
  pub rest : after ≡ span_between (end_of item) (end_of before)

-- the item is a language range with a weight; the range begins after white space
pub record TakesElement (header : List ℕ) (before after range : Span) (weight : ℕ) : Type 0 where
  pub item : Span
  pub taken : TakesItem header before after item
  pub reading : element (span_text header item) ≡ Some (record { range = span_text header range; weight = weight })
  pub begins : item.start ≤ range.start
  pub ends : end_of range ≤ end_of item
  pub space : IsTrue (is_ows (slice_range header item.start range.start))

-- a span is an item without the white space around it
pub record IsTrimmed (header : List ℕ) (item span : Span) : Type 0 where
  pub text : span_text header span ≡ trimmed (span_text header item)
  pub begins : item.start ≤ span.start
  pub ends : end_of span ≤ end_of item
  pub space : IsTrue (is_ows (slice_range header item.start span.start))

-- the item is not an element, and this part of it is malformed; the span has it without the white space around it
pub record TakesBad (header : List ℕ) (before after span : Span) (part : ElementPart) : Type 0 where
  pub item : Span
  pub taken : TakesItem header before after item
  pub bad : element (span_text header item) ≡ None
  pub which : part ≡ bad_part (span_text header item)
  pub place : IsTrimmed header item span
