-- The parent of a language with its script and its region, and its short form: CLDR's parent locales, and CLDR's likely
-- subtags, so that a string is never replaced by one in another script (UTS #35, part 1, 'Parent Locales').
use Rattle.std.specs.Prelude.{ℕ, Bool, true, false, ◌&&◌, List, [], ◌∷◌, Option, None, Some, if◌then◌else◌, option_map, unwrap_or}
use Rattle.langtag_scan.specs.Grammar.{option_map_or, are_alike, Record, language_part}
use Rattle.langtag_text.specs.Fields.{Fields}
use Rattle.langtag_cldr.specs.Definitions.{are_alike_fields, language_alone, likely_for, likely_subtags, looked_up, without_region, without_script}
use Rattle.langtag_parent.specs.ParentLocales.{parent_locales}

abbrev pub is_empty : List ℕ → Bool
is_empty [] = true
is_empty (b ∷ text) = false

-- the language of a record, with its extended subtags, and its script and its region
abbrev pub fields_of : Record → Fields
fields_of r = record { language = language_part r; script = unwrap_or r.script []; region = unwrap_or r.region [] }

abbrev pub with_script : Fields → List ℕ → Fields
with_script f script = record { language = f.language; script = script; region = f.region }

-- ---- the script in which a language is written

-- the likely script of a language in a region, or of the language alone if the region is the empty text
abbrev pub likely_script : List ℕ → List ℕ → Option (List ℕ)
likely_script language region = option_map (λ f. f.script) (looked_up likely_subtags (record { language = language; script = []; region = region }))

-- whether there is a script, and it is the one in which the language is usually written in the region
abbrev pub has_likely_script : Fields → Bool
has_likely_script f = if is_empty f.script then false else option_map_or (are_alike f.script) (likely_script f.language f.region) false

-- the fields without a script that is likely anyway: `pt` and `AO` for `pt`, `Latn` and `AO`
abbrev pub short : Fields → Fields
short f = if has_likely_script f then without_script f else f

-- the fields with the script that a tag names, if they are the language of the tag alone, and the language is usually
-- written in this script: `zh` and `Hans` for `zh`, if the tag is `zh-Hans-CN`
abbrev pub named : Fields → Fields → Fields
named tag f = if are_alike_fields f (language_alone tag) && has_likely_script (without_region tag) then with_script f tag.script else f

-- the first script, if it is not the second script
abbrev pub unless_alike : Option (List ℕ) → Option (List ℕ) → Option (List ℕ)
unless_alike None alone = None
unless_alike (Some here) None = None
unless_alike (Some here) (Some alone) = if are_alike here alone then None else Some here

-- the likely script of fields without a script, if the language is usually written in another one: `Hant` for `zh` and
-- `TW`
abbrev pub other_script : Fields → Option (List ℕ)
other_script f = if is_empty f.script then unless_alike (likely_script f.language f.region) (likely_script f.language []) else None

-- ---- the parent

-- the parent in a row of CLDR, which is no parent if it has no language
abbrev pub stated : Fields → Option Fields
stated f = if is_empty f.language then None else Some f

-- the parent that CLDR states for fields, which may be `None`, or the other parent if CLDR states nothing
abbrev pub stated_or : Fields → Option Fields → Option Fields
stated_or f other = option_map_or stated (likely_for parent_locales f) other

-- without the region
abbrev pub parent_in_script : Fields → Option Fields
parent_in_script f = stated_or f (Some (without_region f))

-- without the region; but the script stays what it was: `zh` and `TW` are read as `zh`, `Hant` and `TW`
abbrev pub parent_of_region : Fields → Option Fields
parent_of_region f = option_map_or (λ script. parent_in_script (with_script f script)) (other_script f) (Some (without_region f))

-- the language, if its likely script is not known. Short fields never have the likely script
abbrev pub parent_of_script : Fields → Option Fields
parent_of_script f = option_map_or (λ script. None) (likely_script f.language []) (Some (language_alone f))

-- without the region, or else without the script
abbrev pub usual_parent : Fields → Option Fields
usual_parent f = if is_empty f.region then (if is_empty f.script then None else parent_of_script f) else parent_of_region f

-- the parent of short fields: what CLDR states, or else the usual parent
unfoldable pub parent_of : Fields → Option Fields
parent_of f = stated_or f (usual_parent f)
