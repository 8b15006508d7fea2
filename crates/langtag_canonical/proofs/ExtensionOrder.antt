-- Extensions in the order of their singletons: where they stand so, their text, and that they repeat no singleton where they repeated none before.
use Rattle.langtag_scan.proofs.Prelude.{◌≡◌, ℕ, ◌+◌, ◌<◌, ◌≤◌, true, ◌==◌, Bool, leb, List, [], ◌∷◌, ◌++◌, length, map, refl, sym, ap, ◌∙◌, arith, ◌↔◌, fold, Option, None, subst, AllByRecursion, flat_map, list_any, list_any-append, and_parts, nat_tests, eqb_tells, common_steps, fold-append, filter}
use Rattle.langtag_scan.specs.Grammar.{fold_byte, Extension, IsWellFormedExtension, extension_flat, is_letter, is_digit, is_mark, is_singleton}
use Rattle.langtag_canonical.specs.Canonical.{put_by, sorted_by, in_order}
use Rattle.langtag_text.proofs.Rising.{rises_from}
use Rattle.langtag_scan.proofs.Joins.{length-join}
use Rattle.langtag.specs.Definitions.{extension_spelling, SpellsExtensions, small_singleton, of_singleton}
use Rattle.langtag_extension.proofs.ExtensionLookUp.{first_byte-spelling}
use Rattle.langtag_text.specs.declared.output.Output.{Output}
use Rattle.langtag_text.specs.Output.{Pushes, with_subtag}
use Rattle.langtag_text.proofs.Pushed.{with_joined, pushes_both, pushes_same, pushes_ended, pushes_joined}
use Rattle.langtag.specs.Repeat.{repeat, are_alike_bytes}
use Rattle.langtag_fields.proofs.RepeatsSeen.{repeat_after, repeat-after}

module _ {A : Type 0} (key : A → ℕ) where
  -- ---- a list whose keys rise stays

  put_by-first : (x : A) (xs : List A) → rises_from (key x) (map key xs) ≡ true → put_by key x xs ≡ x ∷ xs
  put_by-first x [] rises = refl
  put_by-first x (y ∷ ys) rises = grind (arith, common_steps, nat_tests, and_parts)

  pub sorted_by-risen : (from : ℕ) (xs : List A) → rises_from from (map key xs) ≡ true → sorted_by key xs ≡ xs
  sorted_by-risen from [] rises = refl
  sorted_by-risen from (x ∷ xs) rises = grind (arith, common_steps, and_parts, put_by-first x xs, sorted_by-risen (key x) xs)

  -- ---- what is sorted rises

  put_by-rises : (low : ℕ) (x : A) (xs : List A) → low ≤ key x → rises_from low (map key xs) ≡ true → rises_from low (map key (put_by key x xs)) ≡ true
  put_by-rises low x [] le rises = grind (arith, common_steps, nat_tests)
  put_by-rises low x (y ∷ ys) le rises = grind (arith, common_steps, nat_tests, and_parts, put_by-rises (key y) x ys)

  pub sorted_by-rises : (xs : List A) → rises_from 0 (map key (sorted_by key xs)) ≡ true
  sorted_by-rises [] = refl
  sorted_by-rises (x ∷ xs) = put_by-rises 0 x (sorted_by key xs) (omega arith) (sorted_by-rises xs)

  -- ---- the elements are those of the list

  put_by-each : (P : A → Type 0) (x : A) (xs : List A) → P x → AllByRecursion P xs → AllByRecursion P (put_by key x xs)
  put_by-each P x [] one all = (one, tt)
  put_by-each P x (y ∷ ys) one all = grind (arith, common_steps, put_by-each P x ys)

  pub sorted_by-each : (P : A → Type 0) (xs : List A) → AllByRecursion P xs → AllByRecursion P (sorted_by key xs)
  sorted_by-each P [] all = tt
  sorted_by-each P (x ∷ xs) all = put_by-each P x (sorted_by key xs) all.0 (sorted_by-each P xs all.1)

  -- ---- one key after the other

  abbrev has : ℕ → A → Bool
  has k x = k == key x

  -- those whose keys are not less than a number, sorted
  abbrev pub sorted_from : ℕ → List A → List A
  sorted_from low xs = sorted_by key (filter (λ x. leb low (key x)) xs)

  sorted_from-rises : (low : ℕ) (xs : List A) → rises_from low (map key (sorted_from low xs)) ≡ true
  sorted_from-rises low [] = refl
  sorted_from-rises low (x ∷ xs) = grind (arith, common_steps, nat_tests, put_by-rises low x (sorted_from low xs), sorted_from-rises low xs)

  put_by-past : (k : ℕ) (x : A) (xs ys : List A) → k < key x → put_by key x (filter (has k) xs ++ ys) ≡ filter (has k) xs ++ put_by key x ys
  put_by-past k x [] ys lt = refl
  put_by-past k x (y ∷ xs) ys lt = grind (arith, common_steps, nat_tests, put_by-past k x xs ys lt)

  pub sorted_from-next : (k : ℕ) (xs : List A) → sorted_from k xs ≡ filter (has k) xs ++ sorted_from (k + 1) xs
  sorted_from-next k [] = refl
  sorted_from-next k (x ∷ xs) = grind (arith, nat_tests, sorted_from-rises k xs, put_by-first x (sorted_from k xs), put_by-past k x xs, sorted_from-next k xs)

-- ---- lists whose elements have the same keys

module _ {A B : Type 0} (f : A → B) (key : A → ℕ) (new : B → ℕ) (same : (x : A) → new (f x) ≡ key x) where
  put_by-map : (x : A) (xs : List A) → map f (put_by key x xs) ≡ put_by new (f x) (map f xs)
  put_by-map x [] = refl
  put_by-map x (y ∷ ys) = grind (arith, common_steps, same, put_by-map x ys)

  pub sorted_by-map : (xs : List A) → map f (sorted_by key xs) ≡ sorted_by new (map f xs)
  sorted_by-map [] = refl
  sorted_by-map (x ∷ xs) = put_by-map x (sorted_by key xs) ∙ ap (put_by new (f x)) (sorted_by-map xs)

-- ---- extensions

abbrev pub key : Extension → ℕ
key e = fold_byte e.singleton

-- the singletons of extensions, in lowercase
abbrev pub keys_of : List Extension → List ℕ
keys_of es = map key es

-- they stay where each singleton is at most the next one, ignoring case, and only there
pub rising_stay : (es : List Extension) → (rises_from 0 (keys_of es) ≡ true) ↔ (in_order es ≡ es)
unfolding in_order
rising_stay es = (sorted_by-risen key 0 es, λ stays. subst (λ z. rises_from 0 (keys_of z) ≡ true) stays (sorted_by-rises key es))

pub in_order-twice : (es : List Extension) → in_order (in_order es) ≡ in_order es
unfolding in_order
in_order-twice es = sorted_by-risen key 0 (in_order es) (sorted_by-rises key es)

-- ---- the extensions in the order of their singletons: where they stand so, and their text

abbrev pub spellings : List Extension → List (List ℕ)
spellings es = map extension_spelling es

-- ---- the texts tell the singletons

key-spelled : (e : Extension) → small_singleton (extension_spelling e) ≡ key e
key-spelled e = ap fold_byte (first_byte-spelling e)

-- the singletons of texts, in lowercase
abbrev pub keys : List (List ℕ) → List ℕ
keys texts = map small_singleton texts

keys-spelled : (es : List Extension) → keys (spellings es) ≡ keys_of es
keys-spelled [] = refl
keys-spelled (e ∷ es) = grind (arith, common_steps, key-spelled e, keys-spelled es)

-- they stand in order where their singletons rise, and only there
pub rise_in_order : (es : List Extension) (b : Bool) → rises_from 0 (keys (spellings es)) ≡ b → (b ≡ true) ↔ (in_order es ≡ es)
rise_in_order es b is = grind (arith, common_steps, keys-spelled es, rising_stay es)

-- ---- the texts in order

abbrev pub sorted : List (List ℕ) → List (List ℕ)
sorted texts = sorted_by small_singleton texts

-- those whose singletons are not less than a byte
abbrev pub left_from : ℕ → List (List ℕ) → List (List ℕ)
left_from byte texts = sorted_from small_singleton byte texts

singleton_within : (b : ℕ) → is_singleton b ≡ true → (48 ≤ fold_byte b) × (fold_byte b ≤ 122)
unfolding fold_byte is_singleton is_letter is_digit is_mark
singleton_within b is = grind (arith, common_steps, nat_tests)

-- all singletons are from `0` to `z`
pub left_from-ends :
    (es : List Extension) → AllByRecursion IsWellFormedExtension es → (left_from 48 (spellings es) ≡ sorted (spellings es)) × (left_from 123 (spellings es) ≡ [])
left_from-ends [] well = (refl, refl)
left_from-ends (e ∷ es) well = grind (arith, common_steps, nat_tests, key-spelled e, singleton_within e.singleton well.0.singleton, left_from-ends es well.1)

-- ---- what is put

with_spellings : (text : List ℕ) (es : List Extension) → fold with_subtag text (spellings es) ≡ fold with_subtag text (flat_map extension_flat es)
with_spellings text [] = refl
with_spellings text (e ∷ es) = grind (arith, common_steps, with_joined text (e.singleton ∷ []) e.subtags, with_spellings (fold with_subtag text (extension_flat e)) es, fold-append with_subtag text (extension_flat e))

pub spelled_in_order : (es : List Extension) (old new : Output) → Pushes (sorted (spellings es)) old new → Pushes (flat_map extension_flat (in_order es)) old new
unfolding in_order
spelled_in_order es old new these first text has = grind (arith, common_steps, sorted_by-map extension_spelling key small_singleton key-spelled es, with_spellings text (in_order es))

-- those of one singleton, and those of the singletons after it
pub pushes_one_more :
    (byte : ℕ) (texts : List (List ℕ)) (old middle new : Output) → Pushes (of_singleton byte texts) old middle → Pushes (left_from (byte + 1) texts) middle new →
    Pushes (left_from byte texts) old new
pushes_one_more byte texts old middle new one rest =
    pushes_same _ _ old new (sym (sorted_from-next small_singleton byte texts)) (pushes_both (of_singleton byte texts) (left_from (byte + 1) texts) old middle new one rest)

-- where they stand in order already, their text is put as it is
pub none_in_order : (es : List Extension) (text : List ℕ) (out : Output) → SpellsExtensions es text → text ≡ [] → Pushes (flat_map extension_flat (in_order es)) out out
unfolding in_order
none_in_order [] text out spells none = pushes_ended [] out refl
none_in_order (e ∷ es) text out spells none = grind (arith, common_steps, length-join (e.singleton ∷ []) (e.subtags ++ flat_map extension_flat es))

pub all_in_order :
    (es : List Extension) (text : List ℕ) (old new : Output) → SpellsExtensions es text → 1 ≤ length text → in_order es ≡ es → Pushes (text ∷ []) old new →
    Pushes (flat_map extension_flat (in_order es)) old new
all_in_order [] text old new spells some same these = grind (arith, common_steps)
all_in_order (e ∷ es) text old new spells some same these =
    rw same (pushes_joined (e.singleton ∷ []) (e.subtags ++ flat_map extension_flat es) old new (omega arith) (rw spells.joined these))

-- ---- extensions in order repeat no singleton where they repeated none before

abbrev once_after : List ℕ → List ℕ → Option ℕ
once_after seen bytes = repeat_after are_alike_bytes seen bytes

-- in which order others were seen changes nothing
seen-same :
    (seen also bytes : List ℕ) → ((b : ℕ) → list_any (are_alike_bytes b) seen ≡ list_any (are_alike_bytes b) also) → once_after seen bytes ≡ once_after also bytes
seen-same seen also [] same = refl
seen-same seen also (x ∷ bytes) same =
    grind (arith, common_steps, same x, seen-same (seen ++ x ∷ []) (also ++ x ∷ []) bytes (λ b. grind (arith, common_steps, same b, list_any-append)))

put_by-once : (seen : List ℕ) (x : ℕ) (bytes : List ℕ) → once_after seen (x ∷ bytes) ≡ None → once_after seen (put_by fold_byte x bytes) ≡ None
put_by-once seen x [] none = none
put_by-once seen x (y ∷ bytes) none =
    let either = seen-same ((seen ++ x ∷ []) ++ y ∷ []) ((seen ++ y ∷ []) ++ x ∷ []) bytes in
    grind (arith, common_steps, list_any-append, eqb_tells, put_by-once (seen ++ y ∷ []) x bytes, either)

sorted-once : (seen bytes : List ℕ) → once_after seen bytes ≡ None → once_after seen (sorted_by fold_byte bytes) ≡ None
sorted-once seen [] none = none
sorted-once seen (x ∷ bytes) none = put_by-once seen x (sorted_by fold_byte bytes) (grind (arith, common_steps, sorted-once (seen ++ x ∷ []) bytes))

pub in_order-once : (es : List Extension) → repeat are_alike_bytes (map (λ e. e.singleton) es) ≡ None → repeat are_alike_bytes (map (λ e. e.singleton) (in_order es)) ≡ None
unfolding in_order
in_order-once es none =
    grind (arith, common_steps, repeat-after are_alike_bytes, sorted_by-map (λ e. e.singleton) key fold_byte (λ e. refl) es, sorted-once [] (map (λ e. e.singleton) es))
