-- Adding and removing the likely subtags of fields (UTS #35, part 1, section 'Likely Subtags').
use Rattle.std.specs.Prelude.{Bool, false, Option, if◌then◌else◌, option_map}
use Rattle.langtag_scan.specs.Prelude.{option_map_or}
use Rattle.langtag_text.specs.Fields.{Fields}
use Rattle.langtag_cldr.specs.Likely.{known_fields, add_likely, filled, are_alike_fields, language_alone, without_script, without_region}
use Rattle.langtag_cldr.specs.LikelySubtags.{likely_subtags}
use Rattle.langtag_cldr.specs.Matching.{language_replaced, region_replaced}

-- the step Canonicalize of Add Likely Subtags: a deprecated language is replaced, and then a deprecated region
abbrev pub canonical_fields : Fields → Fields
canonical_fields f = region_replaced (language_replaced f)

-- Add Likely Subtags: deprecated subtags are replaced before the lookup, and the fields that are empty are filled. A
-- field that is not empty stays as it is, even if it is deprecated: `iw` becomes `iw-Hebr-IL`. `None` if no row fits
unfoldable pub add_likely_subtags : Fields → Option Fields
add_likely_subtags f = option_map (filled f) (add_likely likely_subtags (canonical_fields f))

-- whether these few fields have this maximal form
abbrev pub suffices : Fields → Fields → Bool
suffices most few = option_map_or (λ form. are_alike_fields most form) (add_likely_subtags few) false

-- the fewest fields with the same maximal form. These fields are tried in order: only the language; language and
-- region; language and script; all fields
abbrev pub least : Fields → Fields
least most =
    if suffices most (language_alone (known_fields most)) then language_alone (known_fields most)
    else if suffices most (without_script (known_fields most)) then without_script (known_fields most)
    else if suffices most (without_region (known_fields most)) then without_region (known_fields most)
    else most

-- Remove Likely Subtags
abbrev pub remove_likely_subtags : Fields → Option Fields
remove_likely_subtags f = option_map least (add_likely_subtags f)
