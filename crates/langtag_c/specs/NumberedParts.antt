-- Parts by number, and setting a part of a normal tag to a text, or removing it (RFC 5646 sections 2.2.1 to 2.2.7).
use Rattle.std.specs.Prelude.{◌≡◌, ℕ, List, [], ◌∷◌, slice_get, Option, IfSome, MatchOption, IsTrue}
use Rattle.langtag_scan.specs.Grammar.{is_script, is_region}
use Rattle.langtag.specs.Definitions.{IsLanguage, IsVariants, IsExtensions, IsPrivateUse, SetsLanguage, SetsScript, SetsRegion, SetsVariants, SetsExtensions, SetsPrivateUse, part_text}
use Rattle.langtag_keyword.specs.Transform.{some_text}
use Rattle.langtag.specs.declared.part.Part.{Part}
use Rattle.langtag.specs.declared.part.Part.TheVariants.{Language, Script, Region, Variants, Extensions, PrivateUse}

-- the name of a part, without its text
pub data PartName : Type 0 where
  language script region variants extensions private_use : PartName

-- the name of a value of the library's type `Part`
abbrev pub name_of : Part → PartName
name_of (Language part) = language
name_of (Script part) = script
name_of (Region part) = region
name_of (Variants part) = variants
name_of (Extensions part) = extensions
name_of (PrivateUse part) = private_use

-- the part with a number, counted from 0
abbrev pub part_numbered : ℕ → Option PartName
part_numbered number = slice_get (language ∷ script ∷ region ∷ variants ∷ extensions ∷ private_use ∷ []) number

-- the text is a text of this part, or it is empty, which removes the part; a language may not be empty
abbrev pub IsTextOf : PartName → List ℕ → Type 0
IsTextOf language text = IsLanguage text
IsTextOf script text = IfSome (some_text text) (λ s. IsTrue (is_script s))
IsTextOf region text = IfSome (some_text text) (λ s. IsTrue (is_region s))
IsTextOf variants text = IsVariants text
IsTextOf extensions text = IsExtensions text
IsTextOf private_use text = IfSome (some_text text) IsPrivateUse

-- the part has this name and this text, or it is `None` if the text is not a text of this part
abbrev pub IsPartNamed : PartName → List ℕ → Option Part → Type 0
IsPartNamed name text result = MatchOption result (IsTextOf name text → ⊥) (λ part. IsTextOf name text × (name_of part ≡ name) × (part_text part ≡ text))

-- the second tag is the first tag with the part set to the text
abbrev pub SetsNamedPart : PartName → List ℕ → List ℕ → List ℕ → Type 0
SetsNamedPart language text old new = SetsLanguage text old new
SetsNamedPart script text old new = SetsScript (some_text text) old new
SetsNamedPart region text old new = SetsRegion (some_text text) old new
SetsNamedPart variants text old new = SetsVariants text old new
SetsNamedPart extensions text old new = SetsExtensions text old new
SetsNamedPart private_use text old new = SetsPrivateUse (some_text text) old new

-- there is a part with the number, and the text is a text of this part
abbrev pub IsPartText : ℕ → List ℕ → Type 0
IsPartText number text = MatchOption (part_numbered number) ⊥ (λ part. IsTextOf part text)
