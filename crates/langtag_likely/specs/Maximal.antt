-- The maximal and minimal forms of a tag (UTS #35, part 1, section 'Likely Subtags').
use Rattle.std.specs.Prelude.{ℕ, Bool, true, List, [], ◌∷◌, Option, None, codes, if◌then◌else◌, unwrap_or}
use Rattle.langtag_scan.specs.Grammar.{option_map_or, are_alike, Record}
use Rattle.langtag_cldr.specs.Definitions.{known, or_other, add_likely_subtags, remove_likely_subtags}
use Rattle.langtag_fields.specs.Fields.{is_prefix_of}
use Rattle.langtag_text.specs.Fields.{Fields, subtag_of}
use Rattle.langtag.specs.Definitions.{IsForm}

-- ---- the fields of a tag

-- the language of a tag: its last extended subtag if it has any, and otherwise its primary subtag; `und` counts as no
-- language
abbrev pub language_field : List ℕ → List (List ℕ) → List ℕ
language_field primary [] = known (codes "und") primary
language_field primary (extlang ∷ []) = extlang
language_field primary (first ∷ second ∷ others) = language_field primary (second ∷ others)

-- the fields of a record; `Zzzz` counts as no script, and `ZZ` as no region
abbrev pub fields_of : Record → Fields
fields_of r = record {
  language = language_field r.primary r.extended;
  script = known (codes "Zzzz") (unwrap_or r.script []);
  region = known (codes "ZZ") (unwrap_or r.region []);
}

-- whether the last extended subtag, if there is any, is registered for the primary subtag (RFC 5646 section 2.2.2)
abbrev pub is_read : List ℕ → List (List ℕ) → Bool
is_read primary [] = true
is_read primary (extlang ∷ []) = is_prefix_of primary extlang
is_read primary (first ∷ second ∷ others) = is_read primary (second ∷ others)

-- what is found for a record, or nothing if its extended language is not registered: what is likely after it is unknown
abbrev pub if_read : Record → Option Fields → Option Fields
if_read r found = if is_read r.primary r.extended then found else None

-- ---- a tag with other fields

-- the new primary subtag: the language of the fields for `und` without extended subtags, and otherwise the old primary
-- subtag
abbrev pub put_language : List ℕ → List (List ℕ) → List ℕ → List ℕ
put_language primary [] language = if are_alike (codes "und") primary then or_other language primary else primary
put_language primary (extlang ∷ others) language = primary

-- the record with the script and the region of the fields, and with their language instead of `und`
abbrev pub put_fields : Record → Fields → Record
put_fields r f = record r { primary = put_language r.primary r.extended f.language; script = subtag_of f.script; region = subtag_of f.region }

-- ---- the forms

-- the record with its likely subtags added, or the same record if no likely subtags are known
unfoldable pub maximal_record : Record → Record
maximal_record r = option_map_or (put_fields r) (if_read r (add_likely_subtags (fields_of r))) r

-- the record without the subtags that are likely anyway, or the same record if no likely subtags are known
unfoldable pub minimal_record : Record → Record
minimal_record r = option_map_or (put_fields r) (if_read r (remove_likely_subtags (fields_of r))) r

-- the maximal form of a text: Add Likely Subtags of UTS #35
abbrev pub IsMaximalForm : List ℕ → List ℕ → Type 0
IsMaximalForm old new = IsForm maximal_record old new

-- the minimal form of a text: Remove Likely Subtags of UTS #35
abbrev pub IsMinimalForm : List ℕ → List ℕ → Type 0
IsMinimalForm old new = IsForm minimal_record old new
