-- A value beside a key, and an entry's value; and the table of languages, which has a bit for each registered one and no other.
use Rattle.langtag_scan.proofs.Prelude.{◌≡◌, ◌||◌, ℕ, zero, suc, Bool, true, List, [], ◌∷◌, Some, map, slice_get, refl, ap, arith, ◌+◌, ◌*◌, ◌-◌, ◌/◌, ◌%◌, ◌<◌, ◌≤◌, false, ◌==◌, leb, length, get_or, sym, ◌∙◌, ◌≢◌, ltb, cond, take, drop, Option, None, list_all, list_any, bytes_eq, and_parts, eq-eqb, ne_eqb, leb-true, ltb-true, false_from_ne_true, common_steps, ◌^◌, get_or_append_left, get_or-append-add, length-map, length-drop, drop-map, take_all, get_or-map, Result, fold-map, flat_map, fold, find, Ok, Err, nat_tests}
use Rattle.std.proofs.lemmas.List.FromFn.{get_or-map-range_with_len, length-map-range_with_len}
use Rattle.langtag_scan.specs.Grammar.{fold_byte, are_alike, fold_text, folded_number, Alike, are_alike-decides, is_letter, are_letters, are_alphanumeric}
use Rattle.langtag_fields.specs.declared.tables.TheConstants.{LANGUAGE_BITS}
use Rattle.langtag_fields.specs.Subtags.{language_subtags, extlang_subtags, tag_preferred}
use Rattle.langtag_text.specs.Numbers.{letter_number, places, climbs_from}
use Rattle.langtag_fields.specs.Tables.{bits, language_bit, AreKeysOf, AreEndsOf, end_number}
use Rattle.langtag_fields.specs.Fields.{preferred_tag}
use Rattle.langtag_fields.specs.Registered.{is_registered_language, is_registered_extlang}
use Rattle.langtag_scan.proofs.FoldedNumbers.{among-numbers, folded_number-tells}
use Rattle.langtag_text.proofs.Letters.{letter_number-tells}
use Rattle.langtag_fields.specs.Entry.{Entry, value_for}
use Rattle.langtag_text.proofs.Rising.{IsSearched, searched_apart, above_first}

pub any_of_view : {A B : Type 0} (test : B → Bool) (view : A → B) (xs : List A) → list_any (λ x. test (view x)) xs ≡ list_any test (map view xs)
any_of_view test view [] = refl
any_of_view test view (x ∷ xs) = ap (λ b. test (view x) || b) (any_of_view test view xs)

-- where all members pass, the one at an index does
pub member_passes : {A : Type 0} (test : A → Bool) (xs : List A) (k : ℕ) (x : A) → list_all test xs ≡ true → slice_get xs k ≡ Some x → test x ≡ true
member_passes test [] k x all at = absurd cc
member_passes test (y ∷ xs) zero x all at = grind (arith, common_steps, and_parts (test y))
member_passes test (y ∷ xs) (suc k) x all at = member_passes test xs k x (and_parts (test y) (list_all test xs) all).1 at

-- ---- by computation

abbrev pub is_short : List ℕ → Bool
is_short text = leb (length text) 3

record IsListed : Type 0 where
  -- the table has exactly the numbers of the list
  numbers : places 27 (flat_map bits LANGUAGE_BITS) ≡ map letter_number language_subtags
  letters : list_all are_letters language_subtags ≡ true
  short : list_all is_short language_subtags ≡ true

-- one proof, so that the list is read only once
listed : IsListed
unfolding language_subtags bits places letter_number is_letter fold_byte
listed = record { numbers = refl; letters = refl; short = refl }

-- ---- a bit of the table

length-bits : (word : ℕ) → length (bits word) ≡ 64
unfolding bits
length-bits word = length-map-range_with_len (λ k. word / 2 ^ k % 2 == 1) 0 64

bit_of_word : (word k : ℕ) → k < 64 → get_or (bits word) k false ≡ (word / 2 ^ k % 2 == 1)
unfolding bits
bit_of_word word k below = get_or-map-range_with_len (λ k. word / 2 ^ k % 2 == 1) 0 64 k k false below (omega arith)

bit_of_words : (words : List ℕ) (q k : ℕ) → q < length words → k < 64 → get_or (flat_map bits words) (q * 64 + k) false ≡ (get_or words q 0 / 2 ^ k % 2 == 1)
bit_of_words [] q k inside below = absurd (omega arith)
bit_of_words (word ∷ words) zero k inside below = grind (arith, common_steps, length-bits, get_or_append_left, bit_of_word)
bit_of_words (word ∷ words) (suc q) k inside below = grind (arith, common_steps, length-bits, get_or-append-add, bit_of_words words q k)

pub language_bit_at : (index : ℕ) → index < 18304 → language_bit index ≡ (get_or LANGUAGE_BITS (index / 64) 0 / 2 ^ (index % 64) % 2 == 1)
unfolding language_bit
language_bit_at index below = grind (arith, nat_tests, bit_of_words LANGUAGE_BITS (index / 64) (index % 64))

-- ---- the places of the bits

place_before : (m n : ℕ) (list : List Bool) → m < n → list_any (λ k. k == m) (places n list) ≡ false
unfolding places
place_before m n [] before = refl
place_before m n (true ∷ list) before = rw (ne_eqb n m (λ same. absurd (omega (arith, same, before))), place_before m (n + 1) list (omega arith)) refl
place_before m n (false ∷ list) before = place_before m (n + 1) list (omega arith)

place_at : (n i : ℕ) (list : List Bool) → list_any (λ k. k == n + i) (places n list) ≡ get_or list i false
unfolding places
place_at n i [] = refl
place_at n zero (true ∷ list) = rw (eq-eqb n (n + 0) (omega arith)) refl
place_at n zero (false ∷ list) = place_before (n + 0) (n + 1) list (omega arith)
place_at n (suc i) (true ∷ list) = grind (arith, common_steps, ne_eqb n (n + suc i), place_at (n + 1) i list)
place_at n (suc i) (false ∷ list) = grind (arith, common_steps, place_at (n + 1) i list)

-- ---- the lookup

pub language_from_bit : (text : List ℕ) → are_letters text ≡ true → 27 ≤ letter_number text → language_bit (letter_number text - 27) ≡ is_registered_language text
unfolding language_bit is_registered_language
language_from_bit text letters from =
    let at : 27 + (letter_number text - 27) ≡ letter_number text = omega (arith, from) in
    sym (place_at 27 (letter_number text - 27) (flat_map bits LANGUAGE_BITS))
    ∙ ap (λ n. list_any (λ k. k == n) (places 27 (flat_map bits LANGUAGE_BITS))) at
    ∙ ap (list_any (λ k. k == letter_number text)) listed.numbers
    ∙ sym (among-numbers letter_number are_letters letter_number-tells text language_subtags letters listed.letters)

-- no registered language is longer than three letters
pub long_apart : (text : List ℕ) (list : List (List ℕ)) → 3 < length text → list_all is_short list ≡ true → list_any (are_alike text) list ≡ false
long_apart text [] long all = refl
long_apart text (first ∷ list) long all = grind (arith, common_steps, and_parts, leb-true, are_alike-decides, length-map, long_apart text list)

pub long_language : (text : List ℕ) → 3 < length text → is_registered_language text ≡ false
unfolding is_registered_language
long_language text long = long_apart text language_subtags long listed.short

-- ---- a value beside a number

abbrev pub numbers_of : List Entry → List ℕ
numbers_of list = map folded_number (map (λ e. e.subtag) list)

abbrev pub are_plain : List Entry → Bool
are_plain list = list_all are_alphanumeric (map (λ e. e.subtag) list)

-- a subtag is the text where the numbers are the same
alike_by_number : (e : Entry) (list : List Entry) (text : List ℕ) (same : Bool) → are_plain (e ∷ list) ≡ true → are_alphanumeric text ≡ true → (folded_number text == folded_number e.subtag) ≡ same → are_alike e.subtag text ≡ same
alike_by_number e list text same plain good is = grind (arith, common_steps, folded_number-tells, and_parts)

pub value_found :
    (low : ℕ) (list : List Entry) (text : List ℕ) (i : ℕ) → climbs_from low (numbers_of list) ≡ true → are_plain list ≡ true → are_alphanumeric text ≡ true →
    i < length (numbers_of list) → get_or (numbers_of list) i 0 ≡ folded_number text → value_for list text ≡ Some (get_or (map (λ e. e.value) list) i [])
value_found low [] text i climbs plain good inside at = absurd (omega (arith, inside))
value_found low (e ∷ list) text zero climbs plain good inside at = rw (alike_by_number e list text true plain good (eq-eqb _ _ (sym at))) refl
value_found low (e ∷ list) text (suc i) climbs plain good inside at =
    grind (arith, common_steps, and_parts, above_first, alike_by_number, ne_eqb, value_found (folded_number e.subtag) list text i)

pub value_absent :
    (list : List Entry) (text : List ℕ) → are_plain list ≡ true → are_alphanumeric text ≡ true →
    ((k : ℕ) → k < length (numbers_of list) → get_or (numbers_of list) k 0 ≢ folded_number text) → value_for list text ≡ None
value_absent [] text plain good none = refl
value_absent (e ∷ list) text plain good none =
    rw (alike_by_number e list text false plain good (ne_eqb _ _ (λ same. none zero (omega arith) (sym same))))
    (value_absent list text (and_parts (are_alphanumeric e.subtag) (are_plain list) plain).1 good (λ j inside. none (suc j) (omega (arith, inside))))

-- the value at the index that was found
abbrev pub value_at : List Entry → Result ℕ ℕ → Option (List ℕ)
value_at list (Ok i) = Some (get_or (map (λ e. e.value) list) i [])
value_at list (Err i) = None

-- what a binary search for the number of a text finds
pub value_searched :
    (keys : List ℕ) (list : List Entry) (text : List ℕ) (key : ℕ) (found : Result ℕ ℕ) → AreKeysOf keys (map (λ e. e.subtag) list) → are_alphanumeric text ≡ true →
    key ≡ folded_number text → IsSearched keys key found → value_for list text ≡ value_at list found
value_searched keys list text key found of good is at = grind (arith, common_steps, value_found, value_absent, searched_apart)

-- no subtag of at most so many letters is alike a longer text
pub value_of_long :
    (most : ℕ) (list : List Entry) (text : List ℕ) → most < length text → list_all (λ e. ltb (length e.subtag) (most + 1)) list ≡ true →
    None ≡ value_for list text
value_of_long most [] text long all = refl
value_of_long most (e ∷ list) text long all = grind (arith, common_steps, and_parts, ltb-true, are_alike-decides, length-map, value_of_long most list text)

-- what holds of each value holds of the one that is found
pub value_good :
    (is_good : List ℕ → Bool) (list : List Entry) (text value : List ℕ) → list_all is_good (map (λ e. e.value) list) ≡ true →
    value_for list text ≡ Some value → is_good value ≡ true
value_good is_good [] text value all is = absurd cc
value_good is_good (e ∷ list) text value all is = grind (arith, common_steps, and_parts (is_good e.value), value_good is_good list text value)

-- ---- by the ends of texts

pub no_entry : Entry
no_entry = record { subtag = []; value = [] }

-- texts that are alike end alike
end_of_folded : List ℕ → ℕ
end_of_folded folded = fold (λ number d. number * 256 + d) 0 (drop (length folded - 8) folded)

end_number-folded : (text : List ℕ) → end_number text ≡ end_of_folded (fold_text text)
unfolding end_number folded_number end_of_folded
end_number-folded text = grind (arith, common_steps, fold-map, drop-map fold_byte (length text - 8) text, length-map text fold_byte)

apart_by_ends : (a b : List ℕ) → end_number a ≢ end_number b → are_alike a b ≡ false
apart_by_ends a b apart = grind (arith, common_steps, end_number-folded, are_alike-decides a b, false_from_ne_true)

abbrev ends_of : List Entry → List ℕ
ends_of list = map end_number (map (λ e. e.subtag) list)

end_absent : (list : List Entry) (text : List ℕ) → ((k : ℕ) → k < length (ends_of list) → get_or (ends_of list) k 0 ≢ end_number text) → value_for list text ≡ None
end_absent [] text none = refl
end_absent (e ∷ list) text none =
    rw (apart_by_ends e.subtag text (none zero (omega arith))) (end_absent list text (λ k inside. none (suc k) (omega (arith, inside))))

end_found :
    (low : ℕ) (list : List Entry) (text : List ℕ) (i : ℕ) → climbs_from low (ends_of list) ≡ true → i < length (ends_of list) →
    get_or (ends_of list) i 0 ≡ end_number text →
    value_for list text ≡ cond (are_alike (get_or list i no_entry).subtag text) (Some (get_or list i no_entry).value) None
end_found low [] text i climbs inside at = absurd (omega (arith, inside))
end_found low (e ∷ list) text zero climbs inside at = grind (arith, common_steps, and_parts, end_absent, above_first)
end_found low (e ∷ list) text (suc i) climbs inside at =
    grind (arith, common_steps, and_parts, above_first, apart_by_ends, end_found (end_number e.subtag) list text i)

-- the value at the index that was found, if the text there is alike
abbrev pub ending_at : List Entry → List ℕ → Result ℕ ℕ → Option (List ℕ)
ending_at list text (Ok i) = cond (are_alike (get_or list i no_entry).subtag text) (Some (get_or list i no_entry).value) None
ending_at list text (Err i) = None

pub end_searched :
    (keys : List ℕ) (list : List Entry) (text : List ℕ) (key : ℕ) (found : Result ℕ ℕ) → AreEndsOf keys (map (λ e. e.subtag) list) →
    key ≡ end_number text → IsSearched keys key found → value_for list text ≡ ending_at list text found
end_searched keys list text key found of is at = grind (arith, common_steps, end_found, end_absent, searched_apart)

-- as the code has it: the number of what stands from a start on, and a list of pairs
pub end_of : (bytes : List ℕ) (start key : ℕ) → start ≡ length bytes - 8 → key ≡ folded_number (take (length bytes - start) (drop start bytes)) → key ≡ end_number bytes
unfolding end_number
end_of bytes start key at is = grind (arith, common_steps, take_all (length bytes - start) (drop start bytes), length-drop start bytes)

pub subtags-view : {A : Type 0} (view : A → Entry) (xs : List A) → map (λ e. e.subtag) (map view xs) ≡ map (λ x. (view x).subtag) xs
subtags-view view [] = refl
subtags-view view (x ∷ xs) = ap (λ ts. (view x).subtag ∷ ts) (subtags-view view xs)

pub end_decided :
    {A : Type 0} (view : A → Entry) (keys : List ℕ) (xs : List A) (text : List ℕ) (i : ℕ) (d : A) (alike : Bool) → AreEndsOf keys (map (λ e. e.subtag) (map view xs)) → i < length keys →
    are_alike (view (get_or xs i d)).subtag text ≡ alike → ending_at (map view xs) text (Ok i) ≡ cond alike (Some (view (get_or xs i d)).value) None
end_decided view keys xs text i d alike of inside is = grind (arith, common_steps, length-map, get_or-map view xs i d no_entry, no_entry)

-- ---- alike texts, and members that are found

pub value_for-alike : (list : List Entry) (a b : List ℕ) → Alike a b → value_for list a ≡ value_for list b
value_for-alike [] a b same = refl
value_for-alike (e ∷ list) a b same = grind (arith, common_steps, value_for-alike list a b same)

pub preferred_tag-alike : (a b : List ℕ) → Alike a b → preferred_tag a ≡ preferred_tag b
unfolding preferred_tag
preferred_tag-alike a b alike = value_for-alike tag_preferred a b alike

pub registered_extlang-alike : (a b : List ℕ) → Alike a b → is_registered_extlang a ≡ is_registered_extlang b
unfolding is_registered_extlang
registered_extlang-alike a b alike = ap (λ t. list_any (λ y. bytes_eq t (fold_text y)) extlang_subtags) alike

-- what holds of each member holds of the one that is found
pub found_good :
    (p is_good : List ℕ → Bool) (list : List (List ℕ)) (x : List ℕ) → list_all is_good list ≡ true → find p list ≡ Some x → is_good x ≡ true
found_good p is_good [] x all found = absurd cc
found_good p is_good (y ∷ list) x all found = grind (arith, common_steps, and_parts (is_good y) (list_all is_good list) all, found_good p is_good list x)
