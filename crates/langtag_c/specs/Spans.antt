-- Spans of a text: each an offset and a length.
use Rattle.std.specs.Prelude.{ℕ, ◌+◌, ◌-◌, ◌<◌, ◌≤◌, ◌==◌, ◌&&◌, Bool, if◌then◌else◌, List, length, nat_lt, slice_range}
use Rattle.langtag_c.specs.declared.span.Span.{Span}

-- the bytes of a span
abbrev pub span_text : List ℕ → Span → List ℕ
span_text text span = slice_range text span.start (span.start + span.len)

-- the index after the last byte of a span
abbrev pub end_of : Span → ℕ
end_of span = span.start + span.len

-- a span is within a text
abbrev pub IsWithin : List ℕ → Span → Type 0
IsWithin text span = end_of span ≤ length text

-- a span has bytes, and is within the text
abbrev pub HasBytes : List ℕ → Span → Type 0
HasBytes text span = (0 < span.len) × IsWithin text span

-- whether a span has bytes and is within the text, as a Boolean
abbrev pub has_bytes : List ℕ → Span → Bool
has_bytes text span = nat_lt 0 span.len && nat_lt (end_of span) (length text + 1)

-- the empty span at an index
abbrev pub empty_at : ℕ → Span
empty_at index = record { start = index; len = 0 }

-- the span of a part between two ends: it begins after the hyphen that follows the previous part, and goes up to the
-- part's own end. An absent part has an empty span
abbrev pub span_between : ℕ → ℕ → Span
span_between before end = if before == end then empty_at end else record { start = before + 1; len = end - before - 1 }
