-- The matching form of a text: the fields by which two tags are compared (UTS #35, part 1, section 'Language
-- Matching'). Deprecated subtags are replaced, and then likely subtags are added.
use Rattle.std.specs.Prelude.{ℕ, ◌==◌, ◌&&◌, List, [], ◌∷◌, length, Option, None, codes, if◌then◌else◌, option_map, unwrap_or}
use Rattle.langtag_scan.specs.Grammar.{option_map_or, are_alike, before_first, is_hyphen, is_single}
use Rattle.langtag_range.specs.Definitions.{basic_text, hyphened}
use Rattle.langtag_fields.specs.Fields.{preferred_tag}
use Rattle.langtag_cldr.specs.Likely.{likely_for, or_other, language_alone, known, add_likely}
use Rattle.langtag_text.specs.Fields.{Fields}
use Rattle.langtag_cldr.specs.LikelySubtags.{likely_subtags}
use Rattle.langtag_cldr.specs.Aliases.{language_aliases, region_aliases}
use Rattle.langtag_cldr.specs.TextFields.{text_fields}

-- ---- deprecated subtags are replaced

abbrev pub region_alone : Fields → Fields
region_alone f = record { language = []; script = []; region = f.region }

-- the fields with another language; a script or a region that comes with this language is added if the fields have none
abbrev pub with_language_from : Fields → Fields → Fields
with_language_from f to = record { language = to.language; script = or_other f.script to.script; region = or_other f.region to.region }

-- the fields with another region; `ZZ`, by which `999` is replaced, counts as no region
abbrev pub with_region_from : Fields → Fields → Fields
with_region_from f to = record { language = f.language; script = f.script; region = known (codes "ZZ") to.region }

-- `iw` becomes `he`, and `sh` becomes `sr` with the script `Latn`
unfoldable pub language_replaced : Fields → Fields
language_replaced f = option_map_or (with_language_from f) (likely_for language_aliases (language_alone f)) f

-- `UK` and `826` become `GB`. The first region is taken if several regions replace one, so `SU` becomes `RU`
unfoldable pub region_replaced : Fields → Fields
region_replaced f = option_map_or (with_region_from f) (likely_for region_aliases (region_alone f)) f

-- ---- likely subtags are added

abbrev pub without_language : Fields → Fields
without_language f = record { language = []; script = f.script; region = f.region }

-- the likely fields with the original language
abbrev pub keeping_language : Fields → Fields → Fields
keeping_language f likely = record { language = f.language; script = likely.script; region = likely.region }

-- the fields of a language without likely subtags: script and region become what they would be without the language
abbrev pub most_unknown : Fields → Fields
most_unknown f = option_map_or (keeping_language f) (add_likely likely_subtags (without_language f)) f

unfoldable pub most_likely : Fields → Fields
most_likely f = option_map_or (λ most. most) (add_likely likely_subtags f) (most_unknown f)

-- the fields with a deprecated region of two letters replaced; the code of a country in digits, such as `840`, stays
unfoldable pub letters_replaced : Fields → Fields
letters_replaced f = if length f.region == 2 then region_replaced f else f

-- the fields with a deprecated region replaced, and with likely subtags
abbrev pub completed : Fields → Fields
completed f = most_likely (letters_replaced f)

-- the matching form of fields: deprecated subtags are replaced, and then likely subtags are added
abbrev pub matching_fields : Fields → Fields
matching_fields f = completed (language_replaced f)

-- ---- the form of a text

-- a text without extensions and private use: the text before the first subtag of one character, unless a text begins with it
abbrev pub base_text : List ℕ → List ℕ
base_text [] = []
base_text (b ∷ text) = if is_hyphen b && is_single (before_first is_hyphen text) then [] else b ∷ base_text text

-- the text whose fields count: the Preferred-Value of a whole tag in the registry (RFC 5646 section 3.1.7), such as `hak`
-- for `zh-hakka` and `zh-hakka-x-a`, or else the text with "_" read as "-"
abbrev pub current_text : List ℕ → List ℕ
current_text text = unwrap_or (preferred_tag (base_text (basic_text text))) (hyphened text)

-- the matching form of a text. The text `und` has none, nor has a text that does not begin with a language, such as a
-- private use tag or `i-default`. A tag that is replaced as a whole has the form of its replacement, also with extensions
-- and private use. "_" is read as "-", as it is in the ranges of a header, and "*" after the first subtag is ignored.
-- Everything after the fields is ignored, too, such as variants and extensions: `en-GB-oed` has the form of `en-GB`
unfoldable pub matching_form : List ℕ → Option Fields
matching_form text = if are_alike (basic_text text) (codes "und") then None else option_map matching_fields (text_fields (current_text text))

-- the fields of a text with a deprecated language replaced; only contracts of private functions cite this definition
unfoldable pub replaced_form : List ℕ → Option Fields
replaced_form text = if are_alike (basic_text text) (codes "und") then None else option_map language_replaced (text_fields (current_text text))
