-- The rules `extlang` and `language` (RFC 5646 section 2.1): which texts are one to three extended subtags, and which
-- texts are a primary subtag with the extended subtags that may follow it.
use Rattle.std.specs.Prelude.{◌≡◌, ℕ, ◌≤◌, ◌⊎◌, IsTrue, List, [], ◌∷◌, length}
use Rattle.langtag_scan.specs.Grammar.{AllByRecursion, is_primary, is_extended, join}

-- extlang = 3ALPHA *2("-" 3ALPHA): the text is one to three extended subtags, joined by hyphens
pub record SpellsLanguageExtension (extended : List (List ℕ)) (text : List ℕ) : Type 0 where
  pub members : AllByRecursion (λ s. IsTrue (is_extended s)) extended
  pub some : 1 ≤ length extended
  pub few : length extended ≤ 3
  pub joined : join extended ≡ text

-- some list of extended subtags spells the text
abbrev pub IsLanguageExtension : List ℕ → Type 0
IsLanguageExtension text = (extended : List (List ℕ)) × SpellsLanguageExtension extended text

-- language = 2*3ALPHA ["-" extlang] / 4ALPHA / 5*8ALPHA: the text is a primary subtag and at most three extended
-- subtags, joined by hyphens. There are no extended subtags after a primary subtag of four letters or more
pub record SpellsLanguage (primary : List ℕ) (extended : List (List ℕ)) (text : List ℕ) : Type 0 where
  pub first : IsTrue (is_primary primary)
  pub others : AllByRecursion (λ s. IsTrue (is_extended s)) extended
  pub few : length extended ≤ 3
  pub short : (length primary ≤ 3) ⊎ (extended ≡ [])
  pub joined : join (primary ∷ extended) ≡ text

-- some primary subtag and some list of extended subtags spell the text
abbrev pub IsLanguage : List ℕ → Type 0
IsLanguage text = (primary : List ℕ) × (extended : List (List ℕ)) × SpellsLanguage primary extended text

-- P holds for each primary subtag and list of extended subtags that spell the text
abbrev pub EachLanguageSpelling : List ℕ → (List ℕ → List (List ℕ) → Type 0) → Type 0
EachLanguageSpelling text P = (primary : List ℕ) (extended : List (List ℕ)) → SpellsLanguage primary extended text → P primary extended
