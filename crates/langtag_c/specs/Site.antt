-- Tags in spans of a text that are prepared for many choices.
use Rattle.std.specs.Prelude.{◌≡◌, ℕ, Bool, not, ◌||◌, List, Option, None, MatchOption, length, map, unwrap_or, if◌then◌else◌}
use Rattle.langtag_match.specs.Definitions.{Element, wanted_elements}
use Rattle.langtag_choice.specs.Best.{IsChoice, IsMatch}
use Rattle.langtag_choice.specs.declared.best_match.BestMatch as choice
use Rattle.langtag_c.specs.RangePlaces.{IsRangeAt}
use Rattle.langtag_c.specs.Choice.{no_match}
use Rattle.langtag_c.specs.declared.best_match.BestMatch.{BestMatch}
use Rattle.langtag_choice.specs.Prepared.{is_prepared_for}
use Rattle.langtag_c.specs.Spans.{has_bytes, span_text}
use Rattle.langtag_c.specs.TagsAt.{tag_at}
use Rattle.langtag_c.specs.declared.prepare.PreparedTag.{PreparedTag}

-- whether an entry was prepared for the bytes of its span, if the span has bytes
abbrev pub is_current : List ℕ → PreparedTag → Bool
is_current text p = not (has_bytes text p.tag) || is_prepared_for (span_text text p.tag) p.form

-- the tag of an entry, or `None` if its span is not a tag, or if the entry was not prepared for it
unfoldable pub current_tag_at : List ℕ → PreparedTag → Option (List ℕ)
current_tag_at text p = if is_current text p then tag_at text p.tag else None

-- the tags of prepared entries, without those that were not prepared for their spans
abbrev pub current_tags_at : List ℕ → List PreparedTag → List (Option (List ℕ))
current_tags_at text tags = map (current_tag_at text) tags

-- the answer is the index of the best of these tags for these elements, or the number of the tags if none is suitable
pub record IsBestOf (elements : List Element) (tags : List (Option (List ℕ))) (answer : ℕ) : Type 0 where
  pub chosen : Option ℕ
  pub choice : IsChoice elements tags chosen
  pub same : answer ≡ unwrap_or chosen (length tags)

-- the answer and the match for a header, among these tags
pub record IsMatchOf (header : List ℕ) (tags : List (Option (List ℕ))) (answer : ℕ) (found : BestMatch) : Type 0 where
  pub chosen : Option choice.BestMatch
  pub is : IsMatch (wanted_elements header) tags chosen
  pub same : MatchOption chosen ((answer ≡ length tags) × (found ≡ no_match header))
      (λ m. (answer ≡ m.index) × (found.distance ≡ m.distance) × IsRangeAt header m.place found.range)
