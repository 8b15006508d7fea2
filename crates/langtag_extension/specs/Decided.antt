-- The rules of the page Spelling as tests of the subtags of a text. Only ghost fields and contracts of private
-- functions cite this page.
use Rattle.std.specs.Prelude.{ℕ, Bool, false, ◌&&◌, ◌==◌, List, [], ◌∷◌, slice_index}
use Rattle.langtag_scan.specs.Grammar.{list_all, fold_byte, is_singleton, is_extension_subtag, subtags}
use Rattle.langtag_extension.specs.ExtensionTexts.{extension_texts}

abbrev pub are_extension_subtags : List (List ℕ) → Bool
are_extension_subtags texts = list_all is_extension_subtag texts

abbrev pub is_singleton_alone : List ℕ → Bool
is_singleton_alone [] = false
is_singleton_alone (singleton ∷ []) = is_singleton singleton
is_singleton_alone (singleton ∷ more ∷ others) = false

-- whether the subtags are a singleton and at least one subtag of an extension
abbrev pub is_extension_list : List (List ℕ) → Bool
is_extension_list [] = false
is_extension_list (singleton ∷ []) = false
is_extension_list (singleton ∷ first ∷ others) = is_singleton_alone singleton && are_extension_subtags (first ∷ others)

abbrev pub is_extension_text : List ℕ → Bool
is_extension_text text = is_extension_list (subtags text)

abbrev pub are_extension_texts : List (List ℕ) → Bool
are_extension_texts texts = list_all is_extension_text texts

abbrev pub is_extensions_text : List ℕ → Bool
is_extensions_text text = are_extension_texts (extension_texts text)

-- whether the text begins with the byte, ignoring case
abbrev pub opens_alike : ℕ → List ℕ → Bool
opens_alike singleton text = fold_byte (slice_index text 0) == fold_byte singleton
