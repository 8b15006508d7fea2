-- The rules `extlang` and `language` as tests of the subtags of a text. Only ghost fields and contracts of private
-- functions cite this page. Public contracts cite `IsLanguageExtension` and `IsLanguage` instead.
use Rattle.std.specs.Prelude.{ℕ, Bool, false, ◌&&◌, nat_le, if◌then◌else◌, List, [], ◌∷◌, length}
use Rattle.langtag_scan.specs.Grammar.{list_all, is_primary, is_extended, subtags}

abbrev pub are_extended : List (List ℕ) → Bool
are_extended subtags = list_all is_extended subtags

-- whether there are at most `room` subtags, and all of them are extended language subtags
abbrev pub are_extended_within : ℕ → List (List ℕ) → Bool
are_extended_within room subtags = nat_le (length subtags) room && are_extended subtags

-- how many extended subtags may follow a primary subtag: three, or none after four letters or more
abbrev pub extended_room : List ℕ → ℕ
extended_room primary = if nat_le (length primary) 3 then 3 else 0

abbrev pub are_language_extension : List (List ℕ) → Bool
are_language_extension [] = false
are_language_extension (first ∷ others) = are_extended_within 3 (first ∷ others)

abbrev pub are_language : List (List ℕ) → Bool
are_language [] = false
are_language (primary ∷ extended) = is_primary primary && are_extended_within (extended_room primary) extended

abbrev pub is_language_extension : List ℕ → Bool
is_language_extension text = are_language_extension (subtags text)

abbrev pub is_language : List ℕ → Bool
is_language text = are_language (subtags text)
