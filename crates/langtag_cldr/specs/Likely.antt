-- Likely subtags (UTS #35, part 1, section 'Likely Subtags'): the most likely script and region of a language, and the
-- most likely language for a script or a region.
use Rattle.std.specs.Prelude.{ℕ, ◌&&◌, Bool, List, [], ◌∷◌, Option, None, Some, codes, if◌then◌else◌, option_map}
use Rattle.langtag_scan.specs.Grammar.{are_alike}
use Rattle.langtag_text.specs.Fields.{Fields}

-- a row of the data: the fields on the left become the fields on the right
pub record Likely : Type 0 where
  pub from : Fields
  pub to : Fields

-- ---- how the lists of data are read

-- a field of the data, in which a hyphen means the empty text
abbrev pub field : List ℕ → List ℕ
field text = if are_alike (codes "-") text then [] else text

-- the rows in a list of words, three for each row: a language, and its likely script and region
abbrev pub likely_of_languages : List (List ℕ) → List Likely
likely_of_languages [] = []
likely_of_languages (l ∷ []) = []
likely_of_languages (l ∷ s ∷ []) = []
likely_of_languages (l ∷ s ∷ r ∷ words) =
    record { from = record { language = l; script = []; region = [] }; to = record { language = l; script = s; region = r } } ∷ likely_of_languages words

-- the rows in a list of words, six for each row: the fields of the left side, and then the fields of the right side
abbrev pub likely_of_fields : List (List ℕ) → List Likely
likely_of_fields [] = []
likely_of_fields (l ∷ []) = []
likely_of_fields (l ∷ s ∷ []) = []
likely_of_fields (l ∷ s ∷ r ∷ []) = []
likely_of_fields (l ∷ s ∷ r ∷ l2 ∷ []) = []
likely_of_fields (l ∷ s ∷ r ∷ l2 ∷ s2 ∷ []) = []
likely_of_fields (l ∷ s ∷ r ∷ l2 ∷ s2 ∷ r2 ∷ words) =
    record { from = record { language = field l; script = field s; region = field r }; to = record { language = field l2; script = field s2; region = field r2 } }
    ∷ likely_of_fields words

-- ---- finding a row

-- whether fields are equal, ignoring case
abbrev pub are_alike_fields : Fields → Fields → Bool
are_alike_fields a b = are_alike a.language b.language && (are_alike a.script b.script && are_alike a.region b.region)

-- the right side of the row with this left side
abbrev pub likely_for : List Likely → Fields → Option Fields
likely_for [] key = None
likely_for (row ∷ rows) key = if are_alike_fields row.from key then Some row.to else likely_for rows key

-- the first value if there is one, or else the second
abbrev pub or_else : {A : Type 0} → Option A → Option A → Option A
or_else None second = second
or_else (Some first) second = Some first

abbrev pub without_region : Fields → Fields
without_region f = record { language = f.language; script = f.script; region = [] }

abbrev pub without_script : Fields → Fields
without_script f = record { language = f.language; script = []; region = f.region }

abbrev pub language_alone : Fields → Fields
language_alone f = record { language = f.language; script = []; region = [] }

-- the step Lookup of UTS #35: the first row for language, script and region; for language and script; for language and
-- region; or for the language
abbrev pub looked_up : List Likely → Fields → Option Fields
looked_up rows f =
    or_else (likely_for rows f)
    (or_else (likely_for rows (without_region f))
    (or_else (likely_for rows (without_script f)) (likely_for rows (language_alone f))))

-- the first text, or the second text if the first is empty
abbrev pub or_other : List ℕ → List ℕ → List ℕ
or_other [] other = other
or_other (b ∷ text) other = b ∷ text

-- the fields, with each empty field replaced by the same field of a row
abbrev pub filled : Fields → Fields → Fields
filled f likely = record {
  language = or_other f.language likely.language;
  script = or_other f.script likely.script;
  region = or_other f.region likely.region;
}

-- the steps Lookup and Return of Add Likely Subtags, for fields without deprecated subtags; `None` if no row fits
abbrev pub add_likely : List Likely → Fields → Option Fields
add_likely rows f = option_map (filled f) (looked_up rows f)

-- ---- unknown fields count as absent

-- a text, or the empty text if it is the given code for an unknown field, such as `Zzzz` or `ZZ`
abbrev pub known : List ℕ → List ℕ → List ℕ
known unknown text = if are_alike unknown text then [] else text

abbrev pub known_fields : Fields → Fields
known_fields f = record { language = f.language; script = known (codes "Zzzz") f.script; region = known (codes "ZZ") f.region }
