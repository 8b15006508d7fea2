-- The fields of a text, which need not be a tag: the language, the script and the region with which it begins.
use Rattle.std.specs.Prelude.{ℕ, Bool, ◌==◌, ◌||◌, ◌&&◌, not, List, [], ◌∷◌, filter, length, Option, None, Some, codes, if◌then◌else◌}
use Rattle.langtag_scan.specs.Grammar.{slice_split, fold_byte, is_primary, is_extended, is_script, is_region, subtags}
use Rattle.langtag_range.specs.Definitions.{is_star, is_separator}
use Rattle.langtag_fields.specs.Fields.{is_prefix_of}
use Rattle.langtag_cldr.specs.Likely.{known, or_other}
use Rattle.langtag_text.specs.Fields.{Fields}

-- whether a subtag after the first counts: "*", which a language range may have, and empty subtags do not
abbrev pub counts : List ℕ → Bool
counts subtag = not (is_star subtag || (length subtag == 0))

abbrev pub counted : List (List ℕ) → List (List ℕ)
counted subtags = filter counts subtags

-- the last of the extended subtags at the start, or else the text before them
abbrev pub last_language : List ℕ → List (List ℕ) → List ℕ
last_language language [] = language
last_language language (subtag ∷ others) = if is_extended subtag then last_language subtag others else language

-- whether the last extended subtag at the start is an extended language that is registered for a language (RFC 5646 section 2.2.2)
abbrev pub is_extended_by : List ℕ → List (List ℕ) → Bool
is_extended_by language subtags = is_prefix_of language (last_language [] subtags)

-- the extended language if it is registered for the language before it, or else this language
abbrev pub language_of : List ℕ → List (List ℕ) → List ℕ
language_of language subtags = if is_extended_by language subtags then last_language [] subtags else known (codes "und") language

abbrev pub after_language : List (List ℕ) → List (List ℕ)
after_language [] = []
after_language (subtag ∷ others) = if is_extended subtag then after_language others else subtag ∷ others

abbrev pub script_of : List (List ℕ) → List ℕ
script_of [] = []
script_of (subtag ∷ others) = if is_script subtag then subtag else []

abbrev pub after_script : List (List ℕ) → List (List ℕ)
after_script [] = []
after_script (subtag ∷ others) = if is_script subtag then others else subtag ∷ others

abbrev pub region_of : List (List ℕ) → List ℕ
region_of [] = []
region_of (subtag ∷ others) = if is_region subtag then subtag else []

-- the region in a subtag like `rTW`, as Android writes it
abbrev pub after_mark : List ℕ → List ℕ
after_mark [] = []
after_mark (mark ∷ region) = if (fold_byte mark == 114) && is_region region then region else []

abbrev pub first_marked : List (List ℕ) → List ℕ
first_marked [] = []
first_marked (subtag ∷ others) = after_mark subtag

-- Android's region directly after a language, unless an extended language is registered there
abbrev pub marked_region : List ℕ → List (List ℕ) → List ℕ
marked_region language subtags = if is_extended_by language subtags then [] else first_marked subtags

-- the region after language and script, or else Android's
abbrev pub region_after : List ℕ → List (List ℕ) → List ℕ
region_after language subtags = or_other (region_of (after_script (after_language subtags))) (marked_region language subtags)

-- the fields of a text with these subtags, or `None` if it does not begin with a language; `und`, `Zzzz` and `ZZ` count
-- as absent
abbrev pub fields_of_subtags : List (List ℕ) → Option Fields
fields_of_subtags [] = None
fields_of_subtags (first ∷ others) =
    if is_primary first then
    Some (record {
      language = language_of first (counted others);
      script = known (codes "Zzzz") (script_of (after_language (counted others)));
      region = known (codes "ZZ") (region_after first (counted others));
    })
    else None

unfoldable pub text_fields : List ℕ → Option Fields
text_fields text = fields_of_subtags (subtags text)

-- ---- the rest of a text in which "_" is read as "-"; only contracts of private functions cite these definitions

abbrev pub counted_parts : List ℕ → List (List ℕ)
counted_parts text = counted (slice_split is_separator text)
