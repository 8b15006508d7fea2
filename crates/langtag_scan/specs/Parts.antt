-- The parts of a normal tag (RFC 5646 section 2.1): their texts and their offsets.
use Rattle.std.specs.Prelude.{ℕ, ◌+◌, ◌≤◌, ◌==◌, if◌then◌else◌, List, [], ◌∷◌, ◌++◌, Option, None, Some, flat_map, slice_range, option_map}
use Rattle.langtag_scan.specs.Prelude.{option_map_or}
use Rattle.langtag_scan.specs.Record.{Record, extension_flat, private_use_flat, private_part_flat, one_flat}
use Rattle.langtag_scan.specs.Subtags.{join}
use Rattle.langtag_scan.specs.declared.ends.Ends.{Ends}

-- the text of the language: the primary subtag and the extended subtags, joined by hyphens
abbrev pub language_part : Record → List ℕ
language_part r = join (r.primary ∷ r.extended)

-- the text of the variants, joined by hyphens; it is empty if there are no variants
abbrev pub variants_part : Record → List ℕ
variants_part r = join r.variants

-- the text of the extensions: all their subtags, joined by hyphens; it is empty if there are no extensions
abbrev pub extensions_part : Record → List ℕ
extensions_part r = join (flat_map extension_flat r.extensions)

-- the text of the private use part, which is the mark and the subtags after it, joined by hyphens; or none
abbrev pub private_use_part : Record → Option (List ℕ)
private_use_part r = option_map (λ p. join (private_use_flat p)) r.private_use

-- the subtags of the private use part, without its mark
abbrev pub private_use_subtags : Record → List (List ℕ)
private_use_subtags r = option_map_or (λ p. p.subtags) r.private_use []

-- a list of one text: the subtags of a part, joined by hyphens. It is the empty list if the part has no subtags
abbrev pub present : List (List ℕ) → List (List ℕ)
present [] = []
present (subtag ∷ subtags) = join (subtag ∷ subtags) ∷ []

-- the texts of the parts that the tag has, in order
abbrev pub parts : Record → List (List ℕ)
parts r =
    language_part r
    ∷ (one_flat r.script ++ (one_flat r.region ++ (present r.variants
    ++ (present (flat_map extension_flat r.extensions) ++ present (private_part_flat r.private_use)))))

-- the text of a part, found from the end of the previous part and its own end: it begins after the hyphen that follows
-- the previous part. If the part is absent, both ends are equal, and the result is none
abbrev pub text_between : List ℕ → ℕ → ℕ → Option (List ℕ)
text_between text before end = if before == end then None else Some (slice_range text (before + 1) end)

-- no part ends before the end of the previous part
pub record AreInOrder (ends : Ends) : Type 0 where
  pub script : ends.language ≤ ends.script
  pub region : ends.script ≤ ends.region
  pub variants : ends.region ≤ ends.variants
  pub extensions : ends.variants ≤ ends.extensions
  pub private_use : ends.extensions ≤ ends.whole
