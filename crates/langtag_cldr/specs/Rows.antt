-- What the tables of likely subtags contain. Only contracts of private functions cite this page.
use Rattle.std.specs.Prelude.{ℕ, List, [], Option, option_map}
use Rattle.langtag_cldr.specs.Likely.{Likely, likely_for}
use Rattle.langtag_text.specs.Fields.{Fields}
use Rattle.langtag_cldr.specs.LikelySubtags.{language_rows}

-- the fields with only a language
abbrev pub of_language : List ℕ → Fields
of_language language = record { language = language; script = []; region = [] }

-- the likely script and region of a language
abbrev pub places_of : Fields → Fields
places_of to = record { language = []; script = to.script; region = to.region }

abbrev pub places_for : List ℕ → Option Fields
places_for language = option_map places_of (likely_for language_rows (of_language language))

-- the value for an index after the end of a list
abbrev pub no_row : Likely
no_row = record { from = of_language []; to = of_language [] }
