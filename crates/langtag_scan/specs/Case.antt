-- The case of ASCII letters, which tags ignore (RFC 5646 section 2.1.1): how texts are folded to lowercase, when two
-- texts are alike, how texts are ordered, and what a text feeds to a hasher.
use Rattle.std.specs.Prelude.{◌≡◌, ℕ, ◌+◌, ◌*◌, ◌<◌, Bool, List, [], ◌∷◌, ◌++◌, fold, map, length, take, bytes_eq}
use Rattle.langtag_scan.specs.Prelude.{to_ascii_lowercase, Ordering, nat_cmp, on, slice_cmp, HashWrites}

-- an uppercase ASCII letter (65 to 90) becomes lowercase, which adds 32; any other byte stays as it is
unfoldable pub fold_byte : ℕ → ℕ
fold_byte b = to_ascii_lowercase b

-- the text with each of its bytes folded
abbrev pub fold_text : List ℕ → List ℕ
fold_text text = map fold_byte text

-- two texts are alike if they are equal, ignoring the case of letters (section 2.1.1)
abbrev pub Alike : List ℕ → List ℕ → Type 0
Alike a b = fold_text a ≡ fold_text b

-- whether two texts are alike, as the Boolean that `==` returns for texts
abbrev pub are_alike : List ℕ → List ℕ → Bool
are_alike = on fold_text bytes_eq

-- the list by which a text is ordered: its folded bytes, and then 256, which is more than any byte. So if one text is a
-- prefix of another, the shorter text is greater. (The RFC defines no order: this order is the same as in the Rust
-- crate langtag.)
abbrev pub order_key : List ℕ → List ℕ
order_key text = fold_text text ++ 256 ∷ []

-- texts are ordered by their keys, number by number
abbrev pub case_cmp : List ℕ → List ℕ → Ordering
case_cmp = on order_key (slice_cmp nat_cmp)

-- b is longer than a, and begins with a, ignoring case
abbrev pub EndsFirst : List ℕ → List ℕ → Type 0
EndsFirst a b = (length a < length b) × Alike a (take (length a) b)

-- what a text feeds to a hasher: its folded bytes, each in a separate write
abbrev pub case_writes : List ℕ → HashWrites
case_writes text = map (λ b. fold_byte b ∷ []) text

-- the number whose digits in base 256 are the folded bytes of a text
unfoldable pub folded_number : List ℕ → ℕ
folded_number text = fold (λ number b. number * 256 + fold_byte b) 0 text
