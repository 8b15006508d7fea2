-- The keys that a walk has met, and the keywords that are left to it.
use Rattle.langtag_scan.proofs.SubtagLists.{test_from_each}
use Rattle.langtag_keyword.proofs.Common.{common_steps, ◌≡◌, ℕ, ◌*◌, ◌^◌, ◌<◌, Bool, true, false, ◌==◌, ◌&&◌, ◌||◌, not, List, [], ◌∷◌, ◌++◌, length, drop, eqb-true, refl, ap, sym, subst, ◌∙◌, arith, AllByRecursion, filter, list_any, and_parts, eqb_tells, nat_tests, list_any-append, are_alike, is_alphanumeric, is_extension_subtag, subtags, IsExtension, IsSubtag, of_extension_subtag, opens_keyword, is_new_key, keywords_after, HasKeys, IsTrue, each_subtag, each_from_test}
use Rattle.std.proofs.Common.{◌%◌, eqb, bit_or, replicate, set, slice_index_or, w64}
use Rattle.std.specs.Int.{bit_at}
use Rattle.std.proofs.lemmas.List.{get_or-replicate, get_or-set_other, get_or-set_same, length-set}
use Rattle.std.proofs.lemmas.Nat.Bits.{bit_at-zero, bit_at_set_other, bit_at_set_same}
use Rattle.langtag_scan.specs.Case.{fold_byte}
use Rattle.langtag_scan.specs.Class.{is_digit, is_letter}
use Rattle.langtag_extension.specs.Decided.{are_extension_subtags}
use Rattle.langtag_keyword.specs.Keywords.{keywords_of}
use Rattle.langtag_keyword.specs.KeySets.{has_key, keywords_beyond, place_of, with_key}
use Rattle.langtag_keyword.specs.declared.keys.Keys.{Keys}
use Rattle.langtag_keyword.specs.declared.keys.Keys.TheVariants.{Unicode, Transform}
use Rattle.langtag_keyword.proofs.LeastTexts.{AreKeys}
use Rattle.langtag_keyword.proofs.SubtagTexts.{subtags-after_singleton}

-- ---- places

pub place-within : (b : ℕ) → is_alphanumeric b ≡ true → place_of b < 36
unfolding is_letter is_digit fold_byte
place-within b is = grind (arith, nat_tests)

pub place-tells : (a b : ℕ) → is_alphanumeric a ≡ true → is_alphanumeric b ≡ true → (place_of a == place_of b) ≡ eqb (fold_byte a) (fold_byte b)
unfolding is_letter is_digit fold_byte
place-tells a b is_a is_b = grind (arith, nat_tests)

-- ---- one key more

-- a bit of a row is set
abbrev with-bit : List ℕ → ℕ → ℕ → List ℕ
with-bit rows row place = set rows row (bit_or (slice_index_or rows row 0) (1 * 2 ^ place % 2 ^ 64))

abbrev has-bit : List ℕ → ℕ → ℕ → Bool
has-bit rows row place = bit_at (slice_index_or rows row 0) place == 1

bit-more :
    (rows : List ℕ) (row place r p : ℕ) → row < length rows → place < 64 →
    has-bit (with-bit rows row place) r p ≡ (has-bit rows r p || ((r == row) && (p == place)))
bit-more rows row place r p within fits =
    grind (arith, nat_tests, eqb_tells r row, eqb_tells p place, get_or-set_same rows row, get_or-set_other rows row r, bit_at_set_same w64, bit_at_set_other w64)

key-more :
    (rows : List ℕ) (a b c d : ℕ) → length rows ≡ 36 → is_alphanumeric a ≡ true → is_alphanumeric b ≡ true → is_alphanumeric c ≡ true → is_alphanumeric d ≡ true →
    has_key (with_key rows (c ∷ d ∷ [])) (a ∷ b ∷ []) ≡ (has_key rows (a ∷ b ∷ []) || are_alike (a ∷ b ∷ []) (c ∷ d ∷ []))
key-more rows a b c d size is_a is_b is_c is_d = grind (arith, common_steps, bit-more, place-within, place-tells)

pub met-more : (rows : List ℕ) (before : List (List ℕ)) (s : List ℕ) → IsSubtag s → HasKeys rows before → HasKeys (with_key rows s) (before ++ s ∷ [])
met-more rows before s fits met = grind (arith, common_steps, and_parts, key-more, list_any-append, length-set, bit_or)

-- a new set has no key
none-zero : (rows : List ℕ) → ((row : ℕ) → row < 36 → slice_index_or rows row 0 ≡ 0) → (key : List ℕ) → IsSubtag key → length key ≡ 2 → has_key rows key ≡ false
none-zero rows zeros key fits two = grind (arith, common_steps, and_parts, zeros, place-within, bit_at-zero)

pub met-none : (rows : List ℕ) → rows ≡ replicate 36 0 → HasKeys rows []
met-none rows is = record { rows = ap length is; same = none-zero rows (λ row within. ap (λ rs. slice_index_or rs row 0) is ∙ get_or-replicate 36 row 0 0 within) }

-- ---- the keywords that are left

-- every key has two characters
abbrev OpensKeys : (List ℕ → Bool) → Type 0
OpensKeys opens = (s : List ℕ) → opens s ≡ true → length s ≡ 2

module _ (opens : List ℕ → Bool) (two : OpensKeys opens) where
  pub new-met : (rows : List ℕ) (before : List (List ℕ)) (s : List ℕ) → IsSubtag s → HasKeys rows before → (opens s && not (has_key rows s)) ≡ (opens s && not (list_any (are_alike s) before))
  new-met rows before s fits met = grind (arith, nat_tests, met.same s fits, two s)

  pub unmet-after : (rows : List ℕ) (before ss : List (List ℕ)) → AllByRecursion IsSubtag ss → HasKeys rows before → keywords_beyond opens rows ss ≡ keywords_after opens before ss
  unmet-after rows before [] fits met = refl
  unmet-after rows before (s ∷ ss) fits met =
      rw (new-met rows before s fits.0 met, unmet-after (with_key rows s) (before ++ s ∷ []) ss fits.1 (met-more rows before s fits.0 met)) refl

key-two : (keys : Keys) → OpensKeys (opens_keyword keys)
key-two Unicode s is = eqb-true (length s) 2 is
key-two Transform s is = grind (arith, common_steps)

-- the members of an extension are subtags
pub each-fits : (ss : List (List ℕ)) → IsTrue (are_extension_subtags ss) → AllByRecursion IsSubtag ss
each-fits ss h = each_subtag is_extension_subtag of_extension_subtag ss (each_from_test is_extension_subtag ss h)

-- a set without keys leaves all keywords
pub unmet-all :
    (keys : Keys) (rows : List ℕ) (ss : List (List ℕ)) → rows ≡ replicate 36 0 → IsTrue (are_extension_subtags ss) →
    keywords_beyond (opens_keyword keys) rows ss ≡ keywords_of (opens_keyword keys) ss
unmet-all keys rows ss new fits = unmet-after (opens_keyword keys) (key-two keys) rows [] ss (each-fits ss fits) (met-none rows new)

-- a key is new if the set has not met it
pub is_new-met :
    (keys : Keys) (rows : List ℕ) (before : List (List ℕ)) (s : List ℕ) → IsSubtag s → HasKeys rows before →
    (opens_keyword keys s && not (has_key rows s)) ≡ is_new_key (opens_keyword keys) before s
is_new-met keys = new-met (opens_keyword keys) (key-two keys)

-- the subtags of an extension without its singleton are in their class
pub after-singleton-fits : (text : List ℕ) → IsExtension text → IsTrue (are_extension_subtags (subtags (drop 2 text)))
after-singleton-fits text (e, spells) =
    subst (λ ss. IsTrue (are_extension_subtags ss)) (sym (subtags-after_singleton e text spells)) (test_from_each is_extension_subtag e.subtags spells.member.subtags)

-- ---- the keys of an extension

pub are-keys : (keys : Keys) (ss : List (List ℕ)) → AllByRecursion IsSubtag ss → AreKeys (filter (opens_keyword keys) ss)
are-keys keys [] fits = tt
are-keys keys (s ∷ ss) fits = grind (arith, nat_tests, are-keys keys ss fits.1, key-two keys s)

pub ruleset keywords_left = (unmet-all)
