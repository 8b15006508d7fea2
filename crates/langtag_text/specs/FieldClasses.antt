-- What each field is if it is not empty. Only contracts of private functions cite this page.
use Rattle.std.specs.Prelude.{ℕ, Bool, true, List, [], ◌∷◌}
use Rattle.langtag_scan.specs.Grammar.{is_primary, is_script, is_region}

-- a field is empty, or a subtag of its class (RFC 5646 section 2.1)
abbrev pub is_language_field : List ℕ → Bool
is_language_field [] = true
is_language_field (b ∷ text) = is_primary (b ∷ text)

abbrev pub is_script_field : List ℕ → Bool
is_script_field [] = true
is_script_field (b ∷ text) = is_script (b ∷ text)

abbrev pub is_region_field : List ℕ → Bool
is_region_field [] = true
is_region_field (b ∷ text) = is_region (b ∷ text)
