-- What a step removes from a span (RFC 5646 section 2.1).
use Rattle.std.specs.Prelude.{◌≡◌, ℕ, ◌<◌, ◌≤◌, List, slice_index}
use Rattle.langtag_scan.specs.Grammar.{IsHyphenFree}
use Rattle.langtag.specs.Definitions.{IsFirstExtension}
use Rattle.langtag_c.specs.Spans.{end_of, span_between, span_text}
use Rattle.langtag_c.specs.declared.span.Span.{Span}

-- the first bytes of the span `before` are removed; they end before a hyphen or at the end of the span, and the span
-- `after` begins after that hyphen
pub record TakesFirst (text : List ℕ) (before after first : Span) : Type 0 where
  pub start : first.start ≡ before.start
  pub within : first.len ≤ before.len
  pub hyphen : first.len < before.len → slice_index text (end_of first) ≡ 45
  pub rest : after ≡ span_between (end_of first) (end_of before)

-- the removed bytes are a subtag
pub record TakesSubtag (text : List ℕ) (before after subtag : Span) : Type 0 where
  pub first : TakesFirst text before after subtag
  pub hyphen_free : IsHyphenFree (span_text text subtag)

-- the removed bytes are an extension: all subtags up to the next subtag of one byte
pub record TakesExtension (text : List ℕ) (before after extension : Span) : Type 0 where
  pub first : TakesFirst text before after extension
  pub subtags : IsFirstExtension (span_text text before) extension.len
