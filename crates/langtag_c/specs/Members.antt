-- The spans of the variants and the singletons of a tag (RFC 5646 sections 2.2.5 and 2.2.6).
use Rattle.std.specs.Prelude.{ℕ, ◌+◌, List, ◌++◌, length, slice_get, take, Option, flat_map, option_and_then, option_map}
use Rattle.langtag_scan.specs.Grammar.{to_region, to_variants, Record, Extension, extension_flat, join}
use Rattle.langtag_c.specs.declared.span.Span.{Span}

-- the span of the element at an index, which depends on the elements before it and on the element itself; or `None` if
-- there is no such element
abbrev pub member_span : {A : Type 0} → (List A → A → Span) → List A → Option ℕ → Option Span
member_span place xs index = option_and_then (λ k. option_map (place (take k xs)) (slice_get xs k)) index

-- the span of `len` bytes that follows some subtags and a hyphen
abbrev pub span_after : List (List ℕ) → ℕ → Span
span_after subtags len = record { start = length (join subtags) + 1; len = len }

-- the span of a variant that follows other variants of a tag
abbrev pub variant_place : Record → List (List ℕ) → List ℕ → Span
variant_place r before variant = span_after (to_region r ++ before) (length variant)

-- the span of the singleton of an extension that follows other extensions of a tag
abbrev pub singleton_place : Record → List Extension → Extension → Span
singleton_place r before extension = span_after (to_variants r ++ flat_map extension_flat before) 1
