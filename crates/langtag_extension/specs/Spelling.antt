-- The rules of RFC 5646 section 2.2.6: which texts are one extension, and which are a list of extensions.
use Rattle.std.specs.Prelude.{◌≡◌, ◌==◌, ℕ, Bool, false, List, [], ◌∷◌, Option, find, flat_map}
use Rattle.langtag_scan.specs.Grammar.{AllByRecursion, fold_byte, is_singleton, Extension, IsWellFormedExtension, extension_flat, join}

-- whether the text is one byte that is a singleton
abbrev pub is_singleton_text : List ℕ → Bool
is_singleton_text (b ∷ []) = is_singleton b
is_singleton_text text = false

-- the text of an extension: its singleton and its subtags, joined by hyphens
abbrev pub extension_spelling : Extension → List ℕ
extension_spelling e = join (extension_flat e)

-- a well-formed extension spells the text
pub record SpellsExtension (e : Extension) (text : List ℕ) : Type 0 where
  pub member : IsWellFormedExtension e
  pub joined : extension_spelling e ≡ text

-- some extension spells the text
abbrev pub IsExtension : List ℕ → Type 0
IsExtension text = (e : Extension) × SpellsExtension e text

-- a list of well-formed extensions spells the text: all their subtags, joined by hyphens
pub record SpellsExtensions (es : List Extension) (text : List ℕ) : Type 0 where
  pub members : AllByRecursion IsWellFormedExtension es
  pub joined : join (flat_map extension_flat es) ≡ text

-- some list of extensions, which may be empty, spells the text
abbrev pub IsExtensions : List ℕ → Type 0
IsExtensions text = (es : List Extension) × SpellsExtensions es text

-- the first extension whose singleton is the byte, ignoring case
abbrev pub find_extension : ℕ → List Extension → Option Extension
find_extension singleton es = find (λ e. fold_byte e.singleton == fold_byte singleton) es
