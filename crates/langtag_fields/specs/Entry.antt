-- A field of the registry's records (RFC 5646 section 3.1.2).
use Rattle.std.specs.Prelude.{ℕ, List, [], ◌∷◌, Option, None, Some, if◌then◌else◌}
use Rattle.langtag_scan.specs.Grammar.{are_alike}

-- the value of the Subtag or Tag field of a record, and the value of another field
pub record Entry : Type 0 where
  pub subtag : List ℕ
  pub value : List ℕ

-- the entries in a list of texts, in which each subtag is followed by its value
abbrev pub entries : List (List ℕ) → List Entry
entries [] = []
entries (subtag ∷ []) = []
entries (subtag ∷ value ∷ texts) = record { subtag = subtag; value = value } ∷ entries texts

-- the value of the first entry whose subtag equals a text, ignoring case
abbrev pub value_for : List Entry → List ℕ → Option (List ℕ)
value_for [] text = None
value_for (first ∷ others) text = if are_alike first.subtag text then Some first.value else value_for others text

-- the values of all entries whose subtag equals a text, ignoring case
abbrev pub values_for : List Entry → List ℕ → List (List ℕ)
values_for [] text = []
values_for (first ∷ others) text =
    if are_alike first.subtag text then first.value ∷ values_for others text else values_for others text
