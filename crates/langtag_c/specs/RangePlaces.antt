-- Where the ranges of an Accept-Language header are.
use Rattle.std.specs.Prelude.{◌≡◌, ◌+◌, ℕ, Bool, not, List, [], Some, count_by, is_some, length, slice_get, take, unwrap_or, position}
use Rattle.langtag_match.specs.AcceptLanguage.{StandsAt}
use Rattle.langtag_range.specs.Definitions.{Element, is_space, items, written}
use Rattle.langtag_c.specs.declared.span.Span.{Span}

-- whether an item of a header has a range
abbrev pub has_range : List ℕ → Bool
has_range item = is_some (written item [])

-- the number of items that have a range
abbrev pub range_count : List (List ℕ) → ℕ
range_count items = count_by has_range items

-- the number of spaces and tabs at the start of an item
abbrev pub spaces_before : List ℕ → ℕ
spaces_before item = unwrap_or (position (λ b. not (is_space b)) item) (length item)

-- the span is the range of a header that has `place` ranges before it; it begins after the spaces of its item
pub record IsRangeAt (header : List ℕ) (place : ℕ) (span : Span) : Type 0 where
  pub index : ℕ
  pub item : List ℕ
  pub there : slice_get (items header) index ≡ Some item
  pub start : ℕ
  pub stands : StandsAt header item index start
  pub before : range_count (take index (items header)) ≡ place
  pub element : Element
  pub read : written item [] ≡ Some element
  pub begins : span.start ≡ start + spaces_before item
  pub size : span.len ≡ length element.range
