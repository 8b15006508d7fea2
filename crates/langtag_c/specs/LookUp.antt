-- The tag that lookup finds for an Accept-Language header (RFC 9110 section 12.5.4, RFC 4647 section 3.4), and why a
-- header is refused.
use Rattle.std.specs.Prelude.{◌≡◌, ℕ, false, List, [], ◌∷◌, Option, None, length, unwrap_or, position}
use Rattle.langtag_scan.specs.Grammar.{option_map_or, option_or, are_alike}
use Rattle.langtag_match.specs.AcceptLanguage.{IsByWeight, IsFirstBad, acceptable, elements}
use Rattle.langtag_range.specs.Definitions.{Element, items, trimmed, fallbacks}
use Rattle.langtag_match.specs.declared.accept_language_error.ElementPart.{ElementPart}
use Rattle.langtag_c.specs.Spanned.{AreTagsAt}
use Rattle.langtag_c.specs.Spans.{IsWithin, span_text}
use Rattle.langtag_c.specs.declared.span.Span.{Span}

-- the index of the first tag that equals a text, ignoring case
abbrev pub index_alike : List (Option (List ℕ)) → List ℕ → Option ℕ
index_alike tags text = position (λ tag. option_map_or (λ t. are_alike t text) tag false) tags

-- the index of the first tag that equals one of these texts; an earlier text is preferred to a later one
abbrev pub first_index_alike : List (Option (List ℕ)) → List (List ℕ) → Option ℕ
first_index_alike tags [] = None
first_index_alike tags (text ∷ texts) = option_or (index_alike tags text) (first_index_alike tags texts)

-- the index of the tag that lookup finds for the elements; an earlier element is preferred to a later one
abbrev pub first_found : List (Option (List ℕ)) → List Element → Option ℕ
first_found tags [] = None
first_found tags (element ∷ elements) = option_or (first_index_alike tags (fallbacks element.range)) (first_found tags elements)

-- the answer is the index of the tag that lookup finds for the acceptable elements of a header, the greatest weight
-- first, or the number of spans if lookup finds no tag
pub record IsLookedUp (header text : List ℕ) (spans : List Span) (answer : ℕ) : Type 0 where
  pub tags : List (Option (List ℕ))
  pub are : AreTagsAt text spans tags
  pub ordered : List Element
  pub by_weight : IsByWeight (acceptable (elements (items header))) ordered
  pub found : answer ≡ unwrap_or (first_found tags ordered) (length spans)

-- the span is the first item of a header that is neither empty nor an element, without the OWS around it, and this part
-- of the item is malformed
pub record IsBadAt (header : List ℕ) (span : Span) (part : ElementPart) : Type 0 where
  pub within : IsWithin header span
  pub commas : ℕ
  pub first : IsFirstBad header commas span.start part
  pub there : trimmed first.item ≡ span_text header span
