-- A bit of the table of languages tells whether a language has a row, and the bits from it on where the row stands.
use Rattle.langtag_scan.proofs.Prelude.{◌≡◌, ℕ, zero, suc, ◌+◌, ◌*◌, ◌-◌, ◌/◌, ◌%◌, ◌^◌, ◌<◌, ◌≤◌, true, false, ◌==◌, Bool, cond, ltb, List, [], ◌∷◌, ◌++◌, length, get_or, map, take, Option, None, Some, refl, ap, sym, ◌∙◌, arith, list_all, and_parts, eq-eqb, ne_eqb, ltb-true, get_or_append_left, get_or-append-add, take-append-le, common_steps, nat_tests}
use Rattle.std.proofs.Common.{count_ones}
use Rattle.std.specs.Int.Count.{ones_step}
use Rattle.std.proofs.Math.Nat.{div-one, pow-succ', two-pow-succ, div-div-eq-div-mul}
use Rattle.std.proofs.Math.Seq.{take-append-add}
use Rattle.std.proofs.lemmas.Nat.{ones_le_self}
use Rattle.langtag_text.specs.Numbers.{letter_number, places}
use Rattle.langtag_cldr.specs.declared.tables.TheConstants.{LANGUAGE_BITS, LANGUAGE_ENDS}
use Rattle.langtag_cldr.specs.Definitions.{language_rows, first_index}
use Rattle.langtag_cldr.proofs.TableRows.{bits, words, from_bit, rows_listed}

-- ---- the bits of a word

-- how many are set
abbrev count : List Bool → ℕ
count [] = 0
count (true ∷ list) = suc (count list)
count (false ∷ list) = count list

length-bits : (k word : ℕ) → length (bits k word) ≡ k
unfolding bits
length-bits zero word = refl
length-bits (suc k) word = ap suc (length-bits k (word / 2))

count-append : (a b : List Bool) → count (a ++ b) ≡ count a + count b
count-append [] b = omega arith
count-append (true ∷ a) b = let later = count-append a b in omega (arith, later)
count-append (false ∷ a) b = count-append a b

count-lowest : (word : ℕ) (list : List Bool) → count ((word % 2 == 1) ∷ list) ≡ word % 2 + count list
count-lowest word list = grind arith

half_below : (k word : ℕ) → word < 2 ^ suc k → word / 2 < 2 ^ k
half_below k word small = let double = two-pow-succ k in omega (arith, small, double)

count-bits : (k word : ℕ) → word < 2 ^ k → count_ones word ≡ count (bits k word)
unfolding bits
count-bits zero word small = grind (arith, ones_le_self 0)
count-bits (suc k) word small = grind (arith, common_steps, ones_step, half_below, count-lowest, count-bits k (word / 2) (half_below k word small))

shifted_again : (word i : ℕ) → word / 2 ^ suc i ≡ word / 2 / 2 ^ i
shifted_again word i = ap (λ n. word / n) (pow-succ' 2 i) ∙ sym (div-div-eq-div-mul word 2 (2 ^ i))

bit_at : (k word i : ℕ) → i < k → get_or (bits k word) i false ≡ (word / 2 ^ i % 2 == 1)
unfolding bits
bit_at zero word i inside = absurd (omega (arith, inside))
bit_at (suc k) word zero inside = ap (λ n. n % 2 == 1) (sym (div-one word))
bit_at (suc k) word (suc i) inside = bit_at k (word / 2) i (omega (arith, inside)) ∙ ap (λ n. n % 2 == 1) (sym (shifted_again word i))

-- the bits below one, and those from it on
count-split : (k word i : ℕ) → word < 2 ^ k → i < k → count (take i (bits k word)) + count_ones (word / 2 ^ i) ≡ count (bits k word)
unfolding bits
count-split zero word i small inside = absurd (omega (arith, inside))
count-split (suc k) word zero small inside = grind (arith, div-one word, count-bits (suc k) word small)
count-split (suc k) word (suc i) small inside = grind (arith, count-split k (word / 2) i (half_below k word small), count-lowest, shifted_again)

-- ---- the bits of words

abbrev is_word : ℕ → Bool
is_word word = ltb word (2 ^ 64)

-- how many bits are set up to the end of each word
abbrev ends : ℕ → List ℕ → List ℕ
ends before [] = []
ends before (word ∷ list) = (before + count (bits 64 word)) ∷ ends (before + count (bits 64 word)) list

bit_of_words : (list : List ℕ) (q i : ℕ) → q < length list → i < 64 → get_or (words list) (q * 64 + i) false ≡ (get_or list q 0 / 2 ^ i % 2 == 1)
bit_of_words [] q i inside below = absurd (omega (arith, inside))
bit_of_words (word ∷ list) zero i inside below =
    grind (arith, nat_tests, length-bits 64 word, get_or_append_left (bits 64 word) (words list), bit_at 64 word i below)
bit_of_words (word ∷ list) (suc q) i inside below =
    grind (arith, nat_tests, length-bits 64 word, get_or-append-add (bits 64 word) (words list) (q * 64 + i), bit_of_words list q i)

count-words :
    (before : ℕ) (list : List ℕ) (q i : ℕ) → list_all is_word list ≡ true → q < length list → i < 64 →
    before + count (take (q * 64 + i) (words list)) + count_ones (get_or list q 0 / 2 ^ i) ≡ get_or (ends before list) q 0
count-words before [] q i all inside below = absurd (omega (arith, inside))
count-words before (word ∷ list) zero i all inside below = grind (arith, common_steps, ltb-true, and_parts, count-split, length-bits, count, take-append-le)
count-words before (word ∷ list) (suc q) i all inside below =
    let later = count-words (before + count (bits 64 word)) list q i in
    grind (arith, nat_tests, length-bits 64 word, take-append-add (bits 64 word) (words list) (q * 64 + i), count-append, later)

-- ---- where the place of a bit stands among the places of those that are set

not_before : (m n : ℕ) (list : List Bool) → m < n → first_index (places n list) m ≡ None
unfolding places
not_before m n [] before = refl
not_before m n (true ∷ list) before = rw (ne_eqb m n (λ same. absurd (omega (arith, same, before))), not_before m (n + 1) list (omega (arith, before))) refl
not_before m n (false ∷ list) before = not_before m (n + 1) list (omega (arith, before))

index_of_place : (n i : ℕ) (list : List Bool) → first_index (places n list) (n + i) ≡ cond (get_or list i false) (Some (count (take i list))) None
unfolding places
index_of_place n i [] = refl
index_of_place n zero (true ∷ list) = rw (eq-eqb (n + 0) n (omega arith)) refl
index_of_place n zero (false ∷ list) = not_before (n + 0) (n + 1) list (omega arith)
index_of_place n (suc i) (true ∷ list) = grind (arith, ne_eqb (n + suc i) n, index_of_place (n + 1) i list)
index_of_place n (suc i) (false ∷ list) = grind (arith, index_of_place (n + 1) i list)

-- ---- any two tables: the bits of some numbers, and the ends of their words

module _ (table last numbers : List ℕ) (all : list_all is_word table ≡ true) (last_is : last ≡ ends 0 table) (numbers_are : places 27 (words table) ≡ numbers)
    (place : ℕ) (inside : place / 64 < length table) where
  -- the word of a place from its bit on
  abbrev rest : ℕ
  rest = get_or table (place / 64) 0 / 2 ^ (place % 64)

  before : ℕ
  before = count (take place (words table))

  count_is : before + count_ones rest ≡ get_or last (place / 64) 0
  unfolding before
  count_is = grind (arith, count-words 0 table (place / 64) (place % 64) all inside)

  index_is : first_index numbers (27 + place) ≡ cond (rest % 2 == 1) (Some before) None
  unfolding before
  index_is = grind (arith, index_of_place 27 place (words table), bit_of_words table (place / 64) (place % 64) inside)

  told : (rest % 2 ≡ 0 → first_index numbers (27 + place) ≡ None)
      × (count_ones rest ≤ get_or last (place / 64) 0)
      × (rest % 2 ≡ 1 → first_index numbers (27 + place) ≡ Some (get_or last (place / 64) 0 - count_ones rest))
  told = grind (arith, nat_tests, count_is, index_is)

-- ---- the tables of languages: by computation

same_ends : LANGUAGE_ENDS ≡ ends 0 LANGUAGE_BITS
unfolding bits
same_ends = refl

all_words : list_all is_word LANGUAGE_BITS ≡ true
all_words = refl

-- ---- the row of a language with a number

abbrev pub row_index : ℕ → Option ℕ
row_index number = first_index (map (λ row. letter_number row.from.language) language_rows) number

module _ (number : ℕ) (from : 27 ≤ number) (to : number ≤ 18278) where
  inside : (number - 27) / 64 < length LANGUAGE_BITS
  inside = omega (arith, to)

  at : number ≡ 27 + (number - 27)
  at = omega (arith, from)

  pub no_row : from_bit number % 2 ≡ 0 → row_index number ≡ None
  no_row none = ap row_index at ∙ (told LANGUAGE_BITS _ _ all_words same_ends rows_listed.languages.bits _ inside).0 none

  pub enough_ends : count_ones (from_bit number) ≤ get_or LANGUAGE_ENDS ((number - 27) / 64) 0
  enough_ends = (told LANGUAGE_BITS _ _ all_words same_ends rows_listed.languages.bits _ inside).1

  pub row_at : from_bit number % 2 ≡ 1 → row_index number ≡ Some (get_or LANGUAGE_ENDS ((number - 27) / 64) 0 - count_ones (from_bit number))
  row_at one = ap row_index at ∙ (told LANGUAGE_BITS _ _ all_words same_ends rows_listed.languages.bits _ inside).2 one
