-- How subtags are put in order as numbers, some of them at a time. Only contracts of private functions, and of those that
-- langtag_locale shares, cite this page.
use Rattle.std.specs.Prelude.{◌≡◌, ℕ, zero, suc, ◌+◌, ◌*◌, ◌^◌, ◌<◌, Bool, ◌==◌, ◌&&◌, not, ltb, leb, List, [], ◌∷◌, ◌++◌, if◌then◌else◌, take, filter}
use Rattle.langtag_scan.specs.Grammar.{list_any, w64, to_be_bytes, fold_text}

-- ---- numbers for subtags

-- the number whose digits in base 256 are the bytes of a text, with zeros after them up to this many digits
abbrev pub left_number : ℕ → List ℕ → ℕ
left_number zero text = 0
left_number (suc digits) [] = 0
left_number (suc digits) (b ∷ text) = b * 256 ^ digits + left_number digits text

-- the number of a subtag, which has at most eight bytes, in lowercase. Numbers are in the order of their subtags
abbrev pub order_number : List ℕ → ℕ
order_number subtag = left_number 8 (fold_text subtag)

-- the text that has a number: the digits that are not zero
abbrev pub number_text : ℕ → List ℕ
number_text number = filter (λ b. not (b == 0)) (to_be_bytes w64 number)

-- the key that has a number: the first two digits
abbrev pub key_of : ℕ → List ℕ
key_of number = take 2 (to_be_bytes w64 number)

-- ---- the least numbers

-- what is kept of the numbers that were offered: those above `last`, up to `limit`
pub record Least : Type 0 where
  pub last : ℕ
  pub limit : ℕ
  pub kept : List ℕ

abbrev pub has : ℕ → List ℕ → Bool
has n ns = list_any (λ m. m == n) ns

abbrev pub is_within : ℕ → ℕ → ℕ → Bool
is_within last limit n = ltb last n && leb n limit

-- the numbers that are kept are those that were offered and are within the limits
pub record HoldsLeast (least : Least) (offered : List ℕ) : Type 0 where
  pub order : least.last < least.limit
  pub same : (n : ℕ) → has n least.kept ≡ (is_within least.last least.limit n && has n offered)

-- more numbers were offered
pub record IsOffered (more : List ℕ) (old new : Least) : Type 0 where
  pub last : new.last ≡ old.last
  pub holds : (offered : List ℕ) → HoldsLeast old offered → HoldsLeast new (offered ++ more)

-- each number that is greater than `last` and than the numbers before it
abbrev pub ascending_after : ℕ → List ℕ → List ℕ
ascending_after last [] = []
ascending_after last (n ∷ ns) = if ltb last n then n ∷ ascending_after n ns else ascending_after last ns

-- each number is greater than the one before it, and the first is greater than `last`
abbrev pub AscendsFrom : ℕ → List ℕ → Type 0
AscendsFrom last [] = Unit
AscendsFrom last (n ∷ ns) = (last < n) × AscendsFrom n ns

-- the same numbers but zero, each greater than the one before it
pub record IsSettled (old new : List ℕ) : Type 0 where
  pub rise : AscendsFrom 0 new
  pub same : (n : ℕ) → has n new ≡ (ltb 0 n && has n old)
