-- What lookup removes from a range (RFC 4647 section 3.4) if it reads languages as CLDR replaces them.
use Rattle.std.specs.Prelude.{ℕ, ◌-◌, Bool, ◌==◌, ◌&&◌, not, if◌then◌else◌, List, length, drop}
use Rattle.langtag_scan.specs.Grammar.{option_map_or, are_alike, before_first, is_hyphen}
use Rattle.langtag_text.specs.Fields.{Fields}
use Rattle.langtag_cldr.specs.Definitions.{replaced_form}
use Rattle.langtag_choice.specs.Nearness.{is_fallback, lost}

-- the language of a form that has neither script nor region, or else a text
abbrev pub alone_or : List ℕ → Fields → List ℕ
alone_or text form = if (length form.script == 0) && (length form.region == 0) then form.language else text

-- the language by which CLDR replaces a language, if no script or region comes with it: `eng` is read as `en`, but `sh`, which is
-- `sr-Latn`, stays
unfoldable pub language_read : List ℕ → List ℕ
language_read language = option_map_or (alone_or language) (replaced_form language) language

-- whether two languages differ, but are read alike
abbrev pub are_two_codes : List ℕ → List ℕ → Bool
are_two_codes a b = not (are_alike a b) && are_alike (language_read a) (language_read b)

-- the first subtag of a text
abbrev pub first_subtag : List ℕ → List ℕ
first_subtag text = before_first is_hyphen text

-- what follows the first subtag of a text, from its hyphen on
abbrev pub behind_first : List ℕ → List ℕ
behind_first text = drop (length (first_subtag text)) text

-- whether lookup finds a tag that has another code for the language of the range
abbrev pub is_fallback_as_read : List ℕ → List ℕ → Bool
is_fallback_as_read range tag = are_two_codes (first_subtag range) (first_subtag tag) && is_fallback (behind_first range) (behind_first tag)

-- the number of bytes that lookup removes from a range to find a tag, which may have another code for the language; all bytes of the
-- range if it does not find the tag
unfoldable pub lost_as_read : List ℕ → List ℕ → ℕ
lost_as_read range tag = if is_fallback_as_read range tag then length (behind_first range) - length (behind_first tag) else lost range tag
