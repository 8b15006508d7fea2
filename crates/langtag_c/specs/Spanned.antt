-- The tags and the language ranges in spans of a text.
use Rattle.std.specs.Prelude.{◌≡◌, ◌<◌, ℕ, if◌then◌else◌, List, [], ◌∷◌, Option, None, MatchOption, length, map, slice_index_or}
use Rattle.langtag_scan.specs.Grammar.{cons_option, IsTag}
use Rattle.langtag_range.specs.Definitions.{Element, basic_element, listed}
use Rattle.langtag_c.specs.Spans.{HasBytes, empty_at, has_bytes, span_text}
use Rattle.langtag_c.specs.declared.span.Span.{Span}

-- a span is within the text, and its bytes are a tag
abbrev pub HasTag : List ℕ → Span → Type 0
HasTag text span = HasBytes text span × IsTag (span_text text span)

-- the entry for a span: its tag, or `None` if the span is not a tag
abbrev pub IsTagAt : List ℕ → Span → Option (List ℕ) → Type 0
IsTagAt text span tag = MatchOption tag (HasTag text span → ⊥) (λ t. HasTag text span × (t ≡ span_text text span))

-- the entries for a list of spans
pub record AreTagsAt (text : List ℕ) (spans : List Span) (tags : List (Option (List ℕ))) : Type 0 where
  pub same_len : length tags ≡ length spans
  pub each : (index : ℕ) → index < length spans → IsTagAt text (slice_index_or spans index (empty_at 0)) (slice_index_or tags index None)

-- the language range in a span as it is written, with the weight 1, or `None` if the span is not a range
abbrev pub range_at : List ℕ → Span → Option Element
range_at text span = if has_bytes text span then listed (span_text text span) else None

-- the language ranges in a list of spans as they are written, in order
abbrev pub written_at : List ℕ → List Span → List Element
written_at text [] = []
written_at text (span ∷ spans) = cons_option (range_at text span) (written_at text spans)

-- these ranges as they are read
abbrev pub ranges_at : List ℕ → List Span → List Element
ranges_at text spans = map basic_element (written_at text spans)
