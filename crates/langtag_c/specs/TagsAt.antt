-- Whether a text is a tag, as a Boolean, and the tags in spans of a text. Most public contracts cite `IsTag`.
use Rattle.std.specs.Prelude.{◌≡◌, ℕ, Bool, true, ◌&&◌, ◌||◌, if◌then◌else◌, List, Option, None, Some, map}
use Rattle.langtag_scan.specs.Grammar.{list_any, are_alike, irregular_texts}
use Rattle.langtag_scan.proofs.NormalTexts.{normal_from_runs, runs_from_normal}
use Rattle.langtag.specs.Definitions.{is_private_use_text}
use Rattle.langtag_c.specs.Spans.{has_bytes, span_text}
use Rattle.langtag_c.specs.declared.span.Span.{Span}

-- a Boolean that decides a property, with the proof that it does
abbrev pub test_of : {P : Type 0} (test : Bool) → (test ≡ true → P) → (P → test ≡ true) → Bool
test_of test holds is = test

abbrev pub is_normal_text : List ℕ → Bool
is_normal_text text = test_of _ (normal_from_runs text) (runs_from_normal text)

abbrev pub is_irregular : List ℕ → Bool
is_irregular text = list_any (λ name. are_alike name text) irregular_texts

abbrev pub is_tag : List ℕ → Bool
is_tag text = is_normal_text text || (is_private_use_text text || is_irregular text)

-- the tag in a span, or `None` if the span is not a tag
unfoldable pub tag_at : List ℕ → Span → Option (List ℕ)
tag_at text span = if has_bytes text span && is_tag (span_text text span) then Some (span_text text span) else None

abbrev pub tags_at : List ℕ → List Span → List (Option (List ℕ))
tags_at text spans = map (tag_at text) spans
