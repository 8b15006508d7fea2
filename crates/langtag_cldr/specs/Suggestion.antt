-- The code that was probably meant by a language or a region that is not registered. It is the replacement by CLDR's
-- aliases, if the replacement is one subtag (UTS #35, part 1, annex C, 'LocaleId Canonicalization').
use Rattle.std.specs.Prelude.{ℕ, ◌==◌, ◌&&◌, List, [], length, Option, None, Some, if◌then◌else◌, option_map, option_and_then}
use Rattle.langtag_scan.specs.Grammar.{is_primary, is_region}
use Rattle.langtag_cldr.specs.Likely.{likely_for}
use Rattle.langtag_text.specs.Fields.{Fields}
use Rattle.langtag_cldr.specs.Aliases.{language_aliases, region_replacements}

-- the language of a replacement, if the replacement has neither a script nor a region
abbrev pub one_language : Fields → Option (List ℕ)
one_language to = if (length to.script == 0) && (length to.region == 0) then Some to.language else None

-- the language that replaces a language code, ignoring case
unfoldable pub suggested_language : List ℕ → Option (List ℕ)
suggested_language code =
    if is_primary code then option_and_then one_language (likely_for language_aliases (record { language = code; script = []; region = [] })) else None

-- the region that replaces a region code of two letters or three digits, ignoring case
unfoldable pub suggested_region : List ℕ → Option (List ℕ)
suggested_region code =
    if is_region code then option_map (λ to. to.region) (likely_for region_replacements (record { language = []; script = []; region = code })) else None
