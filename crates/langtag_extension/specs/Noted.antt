-- Singletons, and which of them occur among the texts of extensions. Only contracts of functions for langtag_canonical and
-- langtag_locale cite this page.
use Rattle.std.specs.Prelude.{codes, ◌≡◌, ◌==◌, ℕ, Bool, false, List, [], filter, slice_index, slice_index_or}
use Rattle.langtag_scan.specs.Grammar.{fold_byte}

-- all singletons (RFC 5646 section 2.2.6), in order
abbrev pub singletons : List ℕ
singletons = codes "0123456789abcdefghijklmnopqrstuvwyz"

-- the singleton of an extension, in lowercase
abbrev pub small_singleton : List ℕ → ℕ
small_singleton text = fold_byte (slice_index text 0)

-- the texts whose singleton is this one in lowercase
abbrev pub of_singleton : ℕ → List (List ℕ) → List (List ℕ)
of_singleton small texts = filter (λ text. small == small_singleton text) texts

-- each of the texts begins with a singleton whose lowercase byte is marked
abbrev pub AreNoted : List Bool → List (List ℕ) → Type 0
AreNoted marks texts = (small : ℕ) → slice_index_or marks small false ≡ false → of_singleton small texts ≡ []
