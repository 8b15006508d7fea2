-- The length of each part of a tag's text, with the hyphen before it, and where parts of such lengths end. Only
-- contracts of private functions cite this page.
use Rattle.std.specs.Prelude.{ℕ, ◌+◌, ◌-◌, List, [], ◌∷◌}
use Rattle.langtag_scan.specs.declared.ends.Ends.{Ends}
use Rattle.langtag.specs.declared.lengths.Lengths.{Lengths}
use Rattle.langtag.specs.declared.part.Part.{Part}
use Rattle.langtag.specs.declared.part.Part.TheVariants.{Language, Script, Region, Variants, Extensions, PrivateUse}

-- a part with a hyphen before it, or the empty text if the part is absent
abbrev pub after_hyphen : List ℕ → List ℕ
after_hyphen [] = []
after_hyphen (b ∷ part) = 45 ∷ b ∷ part

-- the length of each part: from the end of the previous part to its own end
abbrev pub lengths_of : Ends → Lengths
lengths_of ends = record {
  language = ends.language;
  script = ends.script - ends.language;
  region = ends.region - ends.script;
  variants = ends.variants - ends.region;
  extensions = ends.extensions - ends.variants;
  private_use = ends.whole - ends.extensions;
}

-- the end of each part: the sum of its length and the lengths before it
abbrev pub ends_from : Lengths → Ends
ends_from lengths = record {
  language = lengths.language;
  script = lengths.language + lengths.script;
  region = lengths.language + lengths.script + lengths.region;
  variants = lengths.language + lengths.script + lengths.region + lengths.variants;
  extensions = lengths.language + lengths.script + lengths.region + lengths.variants + lengths.extensions;
  whole =
      lengths.language + lengths.script + lengths.region + lengths.variants + lengths.extensions + lengths.private_use;
}

-- the lengths with another length for one part
abbrev pub with_length : Part → Lengths → ℕ → Lengths
with_length (Language language) lengths n = record lengths { language = n }
with_length (Script script) lengths n = record lengths { script = n }
with_length (Region region) lengths n = record lengths { region = n }
with_length (Variants variants) lengths n = record lengths { variants = n }
with_length (Extensions extensions) lengths n = record lengths { extensions = n }
with_length (PrivateUse private_use) lengths n = record lengths { private_use = n }
