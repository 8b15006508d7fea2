-- Where the parts of a normal tag end.
use Rattle.std.specs.Prelude.{◌≡◌, ℕ, List, ◌∷◌, ◌++◌, length, flat_map}
use Rattle.langtag_scan.specs.Subtags.{join}
use Rattle.langtag_scan.specs.Record.{Record, Spells, extension_flat, one_flat, spell}
use Rattle.langtag_scan.specs.declared.ends.Ends.{Ends}

-- the subtags of a record, from its first subtag up to the last subtag of the language; the next four definitions do
-- the same for the other parts
abbrev pub to_language : Record → List (List ℕ)
to_language r = r.primary ∷ r.extended

abbrev pub to_script : Record → List (List ℕ)
to_script r = r.primary ∷ (r.extended ++ one_flat r.script)

abbrev pub to_region : Record → List (List ℕ)
to_region r = r.primary ∷ (r.extended ++ (one_flat r.script ++ one_flat r.region))

abbrev pub to_variants : Record → List (List ℕ)
to_variants r = r.primary ∷ (r.extended ++ (one_flat r.script ++ (one_flat r.region ++ r.variants)))

abbrev pub to_extensions : Record → List (List ℕ)
to_extensions r =
    r.primary
    ∷ (r.extended ++ (one_flat r.script ++ (one_flat r.region ++ (r.variants ++ flat_map extension_flat r.extensions))))

-- the end of each part: the length of all subtags up to the end of that part, joined by hyphens
abbrev pub ends_of : Record → Ends
ends_of r = record {
  language = length (join (to_language r));
  script = length (join (to_script r));
  region = length (join (to_region r));
  variants = length (join (to_variants r));
  extensions = length (join (to_extensions r));
  whole = length (spell r);
}

-- some record spells the text, and its parts end at these offsets
unfoldable pub HasEnds : List ℕ → Ends → Type 0
HasEnds text ends = (r : Record) × Spells r text × (ends ≡ ends_of r)
