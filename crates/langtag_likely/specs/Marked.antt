-- A tag with the region as Android writes it.
use Rattle.std.specs.Prelude.{ℕ, List, [], ◌∷◌, unwrap_or}
use Rattle.langtag_scan.specs.Grammar.{Record}
use Rattle.langtag_text.specs.Fields.{subtag_of}
use Rattle.langtag_cldr.specs.Definitions.{marked_region, or_other}

-- the region that Android writes after a language, in place of the extended subtags: `US` of `rUS`
abbrev pub mark_after : List ℕ → List (List ℕ) → List ℕ
mark_after primary [] = []
mark_after primary (first ∷ others) = marked_region primary (first ∷ others)

-- the region that Android writes after the language of a record
abbrev pub mark_of : Record → List ℕ
mark_of r = mark_after r.primary r.extended

-- the record with such a region as its region, unless it has another one
abbrev pub with_mark : Record → List ℕ → Record
with_mark r [] = r
with_mark r (b ∷ region) = record r { extended = []; region = subtag_of (or_other (unwrap_or r.region []) (b ∷ region)) }

-- the record as it is read: `es-US` for `es-rUS`
abbrev pub as_read : Record → Record
as_read r = with_mark r (mark_of r)
