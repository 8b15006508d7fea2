-- How a text in a caller's list of language ranges is read: like a range in a header, except that it may be an extended
-- range, which is read as lookup reads it.
use Rattle.std.specs.Prelude.{ℕ, List, Option, Some, None, if◌then◌else◌}
use Rattle.langtag_range.specs.Element.{Element, trimmed}
use Rattle.langtag_range.specs.Locale.{locale_place}
use Rattle.langtag_range.specs.BasicForm.{basic_form}
use Rattle.langtag_range.specs.Range.{is_language_range}
use Rattle.langtag_range.specs.Wanted.{hyphened, written_element}
use Rattle.langtag_range.specs.declared.wanted.WantedRange.{WantedRange}

-- the basic range for a text: each "_" is read as "-", and then each "-*" is left out (RFC 4647 section 3.2)
unfoldable pub basic_text : List ℕ → List ℕ
basic_text text = basic_form (hyphened text)

-- the part of a text that is its range: the text without white space around it, shortened to the language and the
-- territory if it is a locale name
abbrev pub listed_text : List ℕ → List ℕ
listed_text text = locale_place (trimmed text)

-- the element of a text as it is written, with the weight 1, or none if the text has no language range
unfoldable pub listed : List ℕ → Option Element
listed text = if is_language_range (hyphened (listed_text text)) then Some (record { range = listed_text text; weight = 1000 }) else None

-- the element as lookup reads it
abbrev pub basic_element : Element → Element
basic_element element = record { range = basic_text element.range; weight = element.weight }

-- the element for a range that was read in this way
abbrev pub listed_element : WantedRange → Element
listed_element found = basic_element (written_element found)
