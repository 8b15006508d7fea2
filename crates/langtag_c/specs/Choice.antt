-- The best of the tags in spans of a text, for a reader.
use Rattle.std.specs.Prelude.{◌≡◌, ◌-◌, ◌^◌, ℕ, List, Option, MatchOption, length, unwrap_or}
use Rattle.langtag_match.specs.Definitions.{Element, wanted_elements}
use Rattle.langtag_choice.specs.Best.{IsChoice, IsMatch}
use Rattle.langtag_choice.specs.Suitable.{AreSuitable, suitable_count}
use Rattle.langtag_choice.specs.declared.best_match.BestMatch as choice
use Rattle.langtag_c.specs.RangePlaces.{IsRangeAt}
use Rattle.langtag_c.specs.Spanned.{AreTagsAt}
use Rattle.langtag_c.specs.Spans.{empty_at}
use Rattle.langtag_c.specs.declared.span.Span.{Span}
use Rattle.langtag_c.specs.declared.best_match.BestMatch.{BestMatch}

-- the answer is the index of the best tag for these elements, or the number of spans if no tag is suitable
pub record IsBest (elements : List Element) (text : List ℕ) (spans : List Span) (answer : ℕ) : Type 0 where
  pub tags : List (Option (List ℕ))
  pub are : AreTagsAt text spans tags
  pub chosen : Option ℕ
  pub choice : IsChoice elements tags chosen
  pub same : answer ≡ unwrap_or chosen (length spans)

-- the match that is written if no tag is suitable
abbrev pub no_match : List ℕ → BestMatch
no_match header = record { range = empty_at (length header); distance = 2 ^ 32 - 1 }

-- the answer and the match for a header: the index of the best tag, the range that it serves, and the distance from
-- that range
pub record IsMatchAt (header text : List ℕ) (spans : List Span) (answer : ℕ) (found : BestMatch) : Type 0 where
  pub tags : List (Option (List ℕ))
  pub are : AreTagsAt text spans tags
  pub chosen : Option choice.BestMatch
  pub is : IsMatch (wanted_elements header) tags chosen
  pub same : MatchOption chosen ((answer ≡ length spans) × (found ≡ no_match header))
      (λ m. (answer ≡ m.index) × (found.distance ≡ m.distance) × IsRangeAt header m.place found.range)

-- the number is that of all suitable tags for these elements, and the indices are theirs, best first, as far as there is room
pub record AreBest (elements : List Element) (text : List ℕ) (spans : List Span) (room number : ℕ) (indices : List ℕ) : Type 0 where
  pub tags : List (Option (List ℕ))
  pub are : AreTagsAt text spans tags
  pub counted : number ≡ suitable_count elements tags
  pub suitable : AreSuitable elements tags room indices
