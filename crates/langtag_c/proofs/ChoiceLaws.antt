-- What is said of the best tag for a reader, of the range that it serves, and of tags that are prepared.
use Rattle.langtag_scan.proofs.Prelude.{◌≡◌, ℕ, ◌<◌, ◌≤◌, List, length, Option, None, Some, unwrap_or, sym, subst, arith, true, false, [], get_or, common_steps, length-map, get_or-map, slice_get_within, and_parts, nat_tests, IfSome, ◌⊎◌, inl, inr, take, length-take, ◌∙◌}
use Rattle.langtag_match.specs.Definitions.{Element, items, hyphened_element, wanted_elements, written_elements}
use Rattle.langtag_choice.specs.Best.{IsChoice, IsMatchOf}
use Rattle.langtag_choice.specs.Suitable.{AreSuitable, suitable_count}
use Rattle.langtag_choice.proofs.ServingLaws.{all_counted, rest_counted}
use Rattle.langtag_c.specs.RangePlaces.{IsRangeAt, range_count}
use Rattle.langtag_c.specs.Spans.{empty_at, HasBytes, has_bytes, span_text}
use Rattle.langtag_c.specs.TagsAt.{tags_at, tag_at}
use Rattle.langtag_c.specs.declared.span.Span.{Span}
use Rattle.langtag_c.proofs.LookUps.{length_written, range_placed}
use Rattle.langtag_c.proofs.TagsAt.{are_tags_at, bytes_from_test}
use Rattle.langtag_c.specs.Choice.{AreBest, IsBest, IsMatchAt}
use Rattle.langtag_c.specs.declared.best_match.BestMatch.{BestMatch}
use Rattle.langtag_choice.specs.Prepared.{is_prepared_for}
use Rattle.langtag_c.specs.Site as site
use Rattle.langtag_c.specs.Site.{current_tag_at, current_tags_at, is_current}
use Rattle.langtag_c.specs.declared.prepare.PreparedTag.{PreparedTag}
use Rattle.langtag_choice.specs.declared.best_match.BestMatch as choice

pub is_best :
    (elements : List Element) (text : List ℕ) (spans : List Span) (chosen : Option ℕ) (answer : ℕ) → IsChoice elements (tags_at text spans) chosen →
    answer ≡ unwrap_or chosen (length spans) → IsBest elements text spans answer
is_best elements text spans chosen answer choice is = record { tags = tags_at text spans; are = are_tags_at text spans; chosen = chosen; choice = choice; same = is }

pub are_best :
    (elements : List Element) (text : List ℕ) (spans : List Span) (room number : ℕ) (indices : List ℕ) → number ≡ suitable_count elements (tags_at text spans) →
    AreSuitable elements (tags_at text spans) room indices → AreBest elements text spans room number indices
are_best elements text spans room number indices counted suitable =
    record { tags = tags_at text spans; are = are_tags_at text spans; counted = counted; suitable = suitable }

-- the tags whose indices were written are all suitable tags, if there is room for more, or as many were written as there are tags
pub all_written :
    (elements : List Element) (tags : List (Option (List ℕ))) (found : List ℕ) (room written : ℕ) → length found ≡ room → written ≤ room → AreSuitable elements tags room (take written found) →
    (written < room) ⊎ (length tags ≤ written) → written ≡ suitable_count elements tags
all_written elements tags found room written long within suitable which =
    let same : length (take written found) ≡ written = omega (arith, length-take written found, long, within) in
    let counted = all_counted elements tags room (take written found) suitable in
    elim which [
      | inl short ↦ sym same ∙ counted (inl (omega (arith, same, short)))
      | inr all ↦ sym same ∙ counted (inr (omega (arith, same, all)))
    ]

-- if the array is full, there are at least as many suitable tags as it has entries
pub full_counted :
    (elements : List Element) (tags : List (Option (List ℕ))) (found : List ℕ) (room written : ℕ) → length found ≤ written → AreSuitable elements tags room (take written found) →
    length found ≤ suitable_count elements tags
full_counted elements tags found room written full suitable =
    omega (arith, full, length-take written found, rest_counted elements tags room (take written found) suitable)

-- an index of a tag, or the number of the tags, is not above that number
pub choice_within :
    (elements : List Element) (tags : List (Option (List ℕ))) (count : ℕ) (chosen : Option ℕ) →
    length tags ≡ count → IsChoice elements tags chosen → unwrap_or chosen count ≤ count
choice_within elements tags count chosen same choice = grind (arith, common_steps, slice_get_within)

-- ---- the range that it serves

pub is_match_of :
    (header : List ℕ) (tags : List (Option (List ℕ))) (m : choice.BestMatch) (o : Option Span) (answer : ℕ) (found : BestMatch) → IsMatchOf (wanted_elements header) tags m → answer ≡ m.index →
    found.distance ≡ m.distance → (o ≡ None → range_count (items header) ≤ m.place) → IfSome o (IsRangeAt header m.place) → found.range ≡ unwrap_or o (empty_at (length header)) →
    site.IsMatchOf header tags answer found
is_match_of header tags m o answer found is index distance none some range =
    let inside = slice_get_within (wanted_elements header) is.pair.place is.pair.element is.pair.wanted in
    let within : m.place < range_count (items header) = omega (arith, inside, is.place, length-map (written_elements header) hyphened_element, length_written (items header)) in
    let placed = range_placed header m.place o (empty_at (length header)) within none some in
    record { chosen = Some m; is = is; same = (index, distance, subst (IsRangeAt header m.place) (sym range) placed) }

-- the same of the tags in spans
pub is_match_at :
    (header text : List ℕ) (spans : List Span) (answer : ℕ) (found : BestMatch) →
    site.IsMatchOf header (tags_at text spans) answer found → IsMatchAt header text spans answer found
is_match_at header text spans answer found it =
    let same = rw (length-map spans (tag_at text)) at it.same in
    record { tags = tags_at text spans; are = are_tags_at text spans; chosen = it.chosen; is = it.is; same = same }

-- ---- an entry

pub current_count : (text : List ℕ) (tags : List PreparedTag) → length (current_tags_at text tags) ≡ length tags
current_count text tags = length-map tags (current_tag_at text)

-- the entry at an index
pub current_entry :
    (text : List ℕ) (tags : List PreparedTag) (index : ℕ) (p : PreparedTag) → index < length tags → get_or (current_tags_at text tags) index None ≡ current_tag_at text (get_or tags index p)
current_entry text tags index p inside = get_or-map (current_tag_at text) tags index p None inside

-- a span that is no tag is left out
pub current_no_tag : (text : List ℕ) (p : PreparedTag) → tag_at text p.tag ≡ None → current_tag_at text p ≡ None
unfolding current_tag_at
current_no_tag text p none = grind (arith, nat_tests)

-- a tag that is there is current, and is the text of its span
pub current_some : (text : List ℕ) (p : PreparedTag) (tag : List ℕ) → current_tag_at text p ≡ Some tag → (is_current text p ≡ true) × (tag_at text p.tag ≡ Some tag)
unfolding current_tag_at
current_some text p tag is = grind (arith, nat_tests)

tag_text : (text : List ℕ) (span : Span) (tag : List ℕ) → tag_at text span ≡ Some tag → (has_bytes text span ≡ true) × (span_text text span ≡ tag)
unfolding tag_at
tag_text text span tag is = grind (arith, nat_tests, and_parts)

-- what was prepared for the bytes of a span is current
pub prepared_current :
    (text : List ℕ) (p : PreparedTag) (bytes : List ℕ) → (HasBytes text p.tag → bytes ≡ span_text text p.tag) → is_prepared_for bytes p.form ≡ true → is_current text p ≡ true
prepared_current text p bytes same is = grind (arith, common_steps, bytes_from_test text p.tag)

pub current_tag : (text : List ℕ) (p : PreparedTag) (tag : List ℕ) → tag_at text p.tag ≡ Some tag → is_prepared_for tag p.form ≡ true → current_tag_at text p ≡ Some tag
unfolding current_tag_at
current_tag text p tag there is = grind (arith, common_steps, tag_text text p.tag tag there)

pub stale_tag : (text : List ℕ) (p : PreparedTag) (tag : List ℕ) → tag_at text p.tag ≡ Some tag → is_prepared_for tag p.form ≡ false → current_tag_at text p ≡ None
unfolding current_tag_at
stale_tag text p tag there stale = grind (arith, common_steps, tag_text text p.tag tag there)

-- what is kept of a tag that is there is true of it
pub entry_form : (text : List ℕ) (p : PreparedTag) (tag : List ℕ) → current_tag_at text p ≡ Some tag → is_prepared_for tag p.form ≡ true
entry_form text p tag is = grind (arith, common_steps, current_some text p tag is, tag_text text p.tag tag)

pub entry_bytes : (text : List ℕ) (p : PreparedTag) (bytes tag : List ℕ) → (HasBytes text p.tag → bytes ≡ span_text text p.tag) → current_tag_at text p ≡ Some tag → bytes ≡ tag
entry_bytes text p bytes tag same is =
    grind (arith, common_steps, current_some text p tag is, tag_text text p.tag tag, bytes_from_test text p.tag)

-- what is read beyond the entries
abbrev pub no_entry : PreparedTag
no_entry = record { tag = empty_at 0; form = record { number = 0; letters = []; language = []; unlikely = 0; script = []; region = [] } }
