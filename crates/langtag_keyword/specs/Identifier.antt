-- The parts of a unicode_language_id (UTS #35, part 1): its language, script, region and variants.
use Rattle.std.specs.Prelude.{ℕ, List, [], ◌∷◌, ◌++◌, IsTrue}
use Rattle.langtag_scan.specs.Grammar.{AllByRecursion, is_region, is_script, is_variant, one_flat}
use Rattle.langtag_text.specs.Fields.{Fields, subtag_of}
use Rattle.langtag_keyword.specs.Form.{after_one, one_of}

-- the first subtag, or the empty text if there is none
abbrev pub first_subtag : List (List ℕ) → List ℕ
first_subtag [] = []
first_subtag (s ∷ ss) = s

-- the subtags of fields and variants
abbrev pub identifier_flat : Fields → List (List ℕ) → List (List ℕ)
identifier_flat f variants = f.language ∷ (one_flat (subtag_of f.script) ++ (one_flat (subtag_of f.region) ++ variants))

-- the fields, and the variants, of the subtags of a unicode_language_id
abbrev pub identifier_fields : List ℕ → List (List ℕ) → Fields
identifier_fields s ss = record { language = s; script = first_subtag (one_of is_script ss); region = first_subtag (one_of is_region (after_one is_script ss)) }

abbrev pub identifier_variants : List (List ℕ) → List (List ℕ)
identifier_variants ss = after_one is_region (after_one is_script ss)

-- each is a variant
abbrev pub AreVariants : List (List ℕ) → Type 0
AreVariants vs = AllByRecursion (λ v. IsTrue (is_variant v)) vs
