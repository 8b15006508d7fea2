-- Types whose values are compared by their texts, ignoring the case of ASCII letters (RFC 5646 section 2.1.1). Their
-- `==`, `cmp` and `hash` depend only on the folded texts. The order is the same as in `case_insensitive_cmp`: if one
-- text is a prefix of another, the shorter text is greater.
use Rattle.std.specs.Prelude.{◌≡◌, ℕ, Bool, List, All, ◌<◌}
use Rattle.langtag_scan.specs.Prelude.{HashWrites, Ordering, Greater}
use Rattle.langtag_scan.specs.Case.{are_alike, case_cmp, case_writes, EndsFirst}

-- the equality, the order and the hash input of a type K follow from the texts of its values, which `text` returns.
-- `partial_cmp` is `Some` of `cmp`: std's `Ord` requires this law, `matches_partial_cmp`, of every type
pub record ComparesByCase {K : Type 0} (text : K → List ℕ) (equality : K → K → Bool) (order : K → K → Ordering) (fed : K → HashWrites) : Type 0 where
  pub equal : (a b : K) → equality a b ≡ are_alike (text a) (text b)
  pub ordered : (a b : K) → order a b ≡ case_cmp (text a) (text b)
  -- a text, whose numbers are bytes, is less than a text with which it begins
  pub ends_first : (a b : K) → All (λ byte. byte < 256) (text b) → EndsFirst (text a) (text b) → order a b ≡ Greater
  pub hashed : (a : K) → fed a ≡ case_writes (text a)
