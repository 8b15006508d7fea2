-- Where a part is in the text of a normal tag, with the hyphen before it, and which text replaces it. Only contracts of
-- private functions cite this page.
use Rattle.std.specs.Prelude.{ℕ, List}
use Rattle.langtag_scan.specs.declared.ends.Ends.{Ends}
use Rattle.langtag.specs.Lengths.{after_hyphen}
use Rattle.langtag.specs.Text.{part_text}
use Rattle.langtag.specs.declared.part.Part.{Part}
use Rattle.langtag.specs.declared.part.Part.TheVariants.{Language, Script, Region, Variants, Extensions, PrivateUse}

-- where the previous part ends
abbrev pub part_start : Part → Ends → ℕ
part_start (Language language) ends = 0
part_start (Script script) ends = ends.language
part_start (Region region) ends = ends.script
part_start (Variants variants) ends = ends.region
part_start (Extensions extensions) ends = ends.variants
part_start (PrivateUse private_use) ends = ends.extensions

-- where this part ends
abbrev pub part_end : Part → Ends → ℕ
part_end (Language language) ends = ends.language
part_end (Script script) ends = ends.script
part_end (Region region) ends = ends.region
part_end (Variants variants) ends = ends.variants
part_end (Extensions extensions) ends = ends.extensions
part_end (PrivateUse private_use) ends = ends.whole

-- the text of a part with the hyphen before it; the language and an absent part have no hyphen
abbrev pub put_text : Part → List ℕ
put_text (Language language) = part_text (Language language)
put_text (Script script) = after_hyphen (part_text (Script script))
put_text (Region region) = after_hyphen (part_text (Region region))
put_text (Variants variants) = after_hyphen (part_text (Variants variants))
put_text (Extensions extensions) = after_hyphen (part_text (Extensions extensions))
put_text (PrivateUse private_use) = after_hyphen (part_text (PrivateUse private_use))
