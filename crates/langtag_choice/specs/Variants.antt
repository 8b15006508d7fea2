-- The reader's variants that a tag lacks.
use Rattle.std.specs.Prelude.{ℕ, not, if◌then◌else◌, List, [], ◌∷◌, filter, length, bytes_eq}
use Rattle.langtag_scan.specs.Grammar.{fold_text, is_variant, is_single, list_any, subtags}
use Rattle.langtag_range.specs.Definitions.{hyphened}
use Rattle.langtag_cldr.specs.Definitions.{counted, counted_parts}

-- the subtags before the first singleton
abbrev pub before_single : List (List ℕ) → List (List ℕ)
before_single [] = []
before_single (subtag ∷ others) = if is_single subtag then [] else subtag ∷ before_single others

abbrev pub variants_among : List (List ℕ) → List (List ℕ)
variants_among subtags = filter is_variant (before_single subtags)

-- the subtags after the first that have the form of a variant (RFC 5646 section 2.2.5), up to the first singleton; "*" and
-- empty subtags do not count
abbrev pub variants_of_subtags : List (List ℕ) → List (List ℕ)
variants_of_subtags [] = []
variants_of_subtags (first ∷ others) = if is_single first then [] else variants_among (counted others)

-- the variants of a text, in lowercase
unfoldable pub variants_of : List ℕ → List (List ℕ)
variants_of text = variants_of_subtags (subtags (hyphened (fold_text text)))

-- how many of some variants are not among others
abbrev pub missing : List (List ℕ) → List (List ℕ) → ℕ
missing wanted others = length (filter (λ variant. not (list_any (bytes_eq variant) others)) wanted)

-- how many of the variants of a range a tag lacks
unfoldable pub lacking : List ℕ → List ℕ → ℕ
lacking range tag = missing (variants_of range) (variants_of tag)

-- ---- as they are read; only contracts of private functions cite these definitions

-- the variants of the rest of a text in which "_" is read as "-"
abbrev pub variant_parts : List ℕ → List (List ℕ)
variant_parts text = variants_among (counted_parts text)

-- the variants of a text in which "_" is read as "-"
abbrev pub text_variants : List ℕ → List (List ℕ)
text_variants text = variants_of_subtags (subtags (hyphened text))
