-- Which irregular tags (RFC 5646 section 2.2.8) begin with the bytes that were read. Only contracts of private
-- functions cite this page.
use Rattle.std.specs.Prelude.{ℕ, ◌==◌, ◌&&◌, nat_lt, Bool, true, false, List, [], ◌∷◌, length, map, slice_index, slice_index_or}
use Rattle.langtag_scan.specs.Case.{fold_text}
use Rattle.langtag_scan.specs.Grandfathered.{irregular_texts}

-- the registered spellings in lowercase
unfoldable pub folded_texts : List (List ℕ)
folded_texts = map fold_text irregular_texts

abbrev pub folded_at : ℕ → List ℕ
folded_at k = slice_index_or folded_texts k []

-- whether a text begins with a prefix
abbrev pub is_prefix : List ℕ → List ℕ → Bool
is_prefix [] text = true
is_prefix (b ∷ p) [] = false
is_prefix (b ∷ p) (c ∷ text) = (b == c) && is_prefix p text

-- whether a text has this byte at an index
abbrev pub has_at : List ℕ → ℕ → ℕ → Bool
has_at text index b = nat_lt index (length text) && (slice_index text index == b)

-- whether the irregular tag at an index of the table begins with a prefix, ignoring case
abbrev pub is_possible : List ℕ → ℕ → Bool
is_possible p k = is_prefix (fold_text p) (folded_at k)
