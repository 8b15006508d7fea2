-- What the tables of the registry contain. Only contracts of private functions cite this page.
use Rattle.std.specs.Prelude.{◌≡◌, ℕ, ◌-◌, ◌/◌, ◌%◌, ◌^◌, ◌==◌, Bool, false, IsTrue, List, [], length, map, drop, slice_index_or, flat_map}
use Rattle.langtag_scan.specs.Grammar.{list_all, range_with_len, folded_number, are_alphanumeric}
use Rattle.langtag_fields.specs.Entry.{Entry}
use Rattle.langtag_fields.specs.declared.tables.TheConstants.{LANGUAGE_BITS}
use Rattle.langtag_text.specs.Numbers.{climbs_from}

-- the keys are the numbers of the texts, which have only letters and digits, and are in ascending order
pub record AreKeysOf (keys : List ℕ) (list : List (List ℕ)) : Type 0 where
  pub numbers : keys ≡ map folded_number list
  pub climb : IsTrue (climbs_from 0 keys)
  pub plain : IsTrue (list_all are_alphanumeric list)

-- the texts at some indices
abbrev pub texts_at : List (List ℕ) → List ℕ → List (List ℕ)
texts_at texts indices = map (λ index. slice_index_or texts index []) indices

-- the keys are the numbers of the subtags of the entries, and the values are the values of the entries
pub record IsTableOf (keys : List ℕ) (values : List (List ℕ)) (list : List Entry) : Type 0 where
  pub numbers : AreKeysOf keys (map (λ entry. entry.subtag) list)
  pub beside : values ≡ map (λ entry. entry.value) list

-- the number of the last eight bytes of a text, or of all its bytes if it has fewer
unfoldable pub end_number : List ℕ → ℕ
end_number text = folded_number (drop (length text - 8) text)

-- the keys are the numbers of the ends of the texts, and are in ascending order
pub record AreEndsOf (keys : List ℕ) (texts : List (List ℕ)) : Type 0 where
  pub numbers : keys ≡ map end_number texts
  pub climb : IsTrue (climbs_from 0 keys)

-- the 64 bits of a word, from the lowest bit on
unfoldable pub bits : ℕ → List Bool
bits word = map (λ k. word / 2 ^ k % 2 == 1) (range_with_len 0 64)

-- whether the bit at an index of the table of languages is set
unfoldable pub language_bit : ℕ → Bool
language_bit index = slice_index_or (flat_map bits LANGUAGE_BITS) index false
