-- How long a tag may become when a keyword is set or removed, and what the order of keywords changes: nothing.
use Rattle.langtag_keyword.proofs.Common.{◌≡◌, ℕ, ◌+◌, ◌≤◌, Bool, true, List, [], ◌∷◌, ◌++◌, length, refl, ap, arith, rules, false, find, None, Some, unwrap_or, cond, append-nil, common_steps, flat_map, are_alike, Extension, Record, extension_flat, spell, subtags, length_with_hyphens, and_parts, false≢true, is_some, find_extension, at_place, changed_from, extension_of, is_this_key, put_keyword, with_keyword, without_keyword, without_within, is_key, before_key, value_of, in_alphabet, language_form, transform_form, transform_value, unicode_form, unicode_value, is_field_key, nat_tests}
use Rattle.langtag_keyword.proofs.SubtagTexts.{length-all, length-with_hyphens}
use Rattle.langtag_scan.proofs.Laws.{length-spell, normal_or_not}
use Rattle.langtag_text.proofs.Alike.{alike_length}
use Rattle.langtag.specs.Form.{IsForm}
use Rattle.langtag_scan.specs.Tag.{IsNormal}
use Rattle.langtag_keyword.specs.Edit.{edited_record}
use Rattle.langtag_keyword.proofs.ExtensionsPut.{flat-last}
use Rattle.langtag_keyword.proofs.KeywordLaws.{before-plain, u-here, u-later, value-plain}
use Rattle.langtag_unicode.specs.FormLaws.{IsKeyword, OrderChangesNothing}
use Rattle.langtag_keyword.proofs.KeywordsInForm.{same-values}
use Rattle.langtag_keyword.specs.Form as form

-- the bytes of some subtags, each with a hyphen
abbrev pub size : List (List ℕ) → ℕ
size ss = length_with_hyphens ss

pub size-append : (xs ys : List (List ℕ)) → size (xs ++ ys) ≡ size xs + size ys
size-append [] ys = omega arith
size-append (x ∷ xs) ys = omega (arith, size-append xs ys)

-- ---- the whole tag

-- a tag with other extensions is longer by what these have more
pub extensions-length : (r : Record) (es : List Extension) → length (spell (record r { extensions = es })) + size (flat_map extension_flat r.extensions) ≡ length (spell r) + size (flat_map extension_flat es)
extensions-length r es = search (rules, length-spell, length-with_hyphens)

-- ---- the subtags of `u`

without-size : (key : List ℕ) (inside : Bool) (ss : List (List ℕ)) → size (without_within key inside ss) ≤ size ss
without-size key inside [] = omega arith
without-size key inside (s ∷ ss) = grind (arith, common_steps, without-size key true ss, without-size key false ss, size)

put-size : (key : List ℕ) (stands : Bool) (keyword ss : List (List ℕ)) → size (put_keyword key stands keyword ss) ≤ size keyword + size ss
put-size key stands keyword [] = omega arith
put-size key stands keyword (s ∷ ss) = grind (arith, common_steps, put-size key stands keyword ss, without-size, size-append, size)

-- a key that stands there is as long as the key
standing-size : (key : List ℕ) (ss : List (List ℕ)) → length (unwrap_or (find (is_this_key key) ss) key) ≡ length key
standing-size key [] = refl
standing-size key (s ∷ ss) = grind (arith, common_steps, standing-size key ss, alike_length s key, and_parts (is_key s) (are_alike s key))

with-size : (key : List ℕ) (value ss : List (List ℕ)) → size (with_keyword key value ss) ≤ (length key + 1 + size value) + size ss
with-size key value ss = grind (arith, common_steps, put-size, standing-size)

-- ---- extensions

extension-size : (singleton : ℕ) (ss : List (List ℕ)) → size (flat_map extension_flat (extension_of singleton ss)) ≤ 2 + size ss
extension-size singleton ss = grind (arith, common_steps, size-append)

-- subtags that are more by some bytes, and a new `u` of some bytes
module _
    (change : List (List ℕ) → List (List ℕ)) (extra fresh : ℕ) (grows : (ss : List (List ℕ)) → size (change ss) ≤ extra + size ss)
    (new : size (flat_map extension_flat (extension_of 117 (change []))) ≤ fresh) (most : extra ≤ fresh)
  where
    place-size : (stands : Bool) (e : Extension) → size (flat_map extension_flat (at_place change stands e)) ≤ fresh + size (extension_flat e)
    place-size stands e = grind (arith, common_steps, extension-size, size, flat-last, size-append)

    changed-size : (stands : Bool) (es : List Extension) → size (flat_map extension_flat (changed_from change stands es)) ≤ fresh + size (flat_map extension_flat es)
    changed-size stands [] = omega (arith, new)
    changed-size stands (e ∷ es) = grind (arith, common_steps, size, u-here, size-append, u-later, changed-size stands es, place-size stands e)

-- ---- the whole tag

set_length : (key value : List ℕ) (r : Record) → length (spell (edited_record key (Some (subtags value)) r)) ≤ length (spell r) + length key + length value + 4
unfolding edited_record
set_length key value r =
    let change = with_keyword key (subtags value) in
    let extra = length key + 1 + size (subtags value) in
    let stands = is_some (find_extension 117 r.extensions) in
    let new : size (flat_map extension_flat (extension_of 117 (change []))) ≤ 2 + extra = omega (arith, extension-size 117 (change []), with-size key (subtags value) []) in
    let all = changed-size change extra (2 + extra) (with-size key (subtags value)) new (omega arith) stands r.extensions in
    omega (arith, all, extensions-length r (changed_from change stands r.extensions), length-all value)

removed_length : (key : List ℕ) (r : Record) → length (spell (edited_record key None r)) ≤ length (spell r)
unfolding edited_record
removed_length key r =
    let stands = is_some (find_extension 117 r.extensions) in
    let all = changed-size (without_keyword key) 0 0 (λ ss. omega (arith, without-size key false ss)) (omega arith) (omega arith) stands r.extensions in
    omega (arith, all, extensions-length r (changed_from (without_keyword key) stands r.extensions))

pub set_bounded : (key value old new : List ℕ) → IsForm (edited_record key (Some (subtags value))) old new → length new ≤ length old + length key + length value + 4
unfolding IsNormal
set_bounded key value old new is = grind (arith, common_steps, normal_or_not old, set_length key value)

pub removed_bounded : (key old new : List ℕ) → IsForm (edited_record key None) old new → length new ≤ length old
unfolding IsNormal
removed_bounded key old new is = grind (arith, common_steps, normal_or_not old, removed_length key)

-- ---- the order of keywords

module _ (opens : List ℕ → Bool) where
  stops : (k : List ℕ) (ss : List (List ℕ)) → opens k ≡ true → before_key opens (k ∷ ss) ≡ []
  stops k ss is = ap (λ b. cond b [] (k ∷ before_key opens ss)) is

  -- before two keys
  before-same : (xs rs qs : List (List ℕ)) (k l : List ℕ) → opens k ≡ true → opens l ≡ true → before_key opens (xs ++ k ∷ rs) ≡ before_key opens (xs ++ l ∷ qs)
  before-same [] rs qs k l is other = grind (arith, nat_tests)
  before-same (x ∷ xs) rs qs k l is other = grind (arith, nat_tests, before-same xs rs qs k l is other)

  value-same :
      (key : List ℕ) (xs rs qs : List (List ℕ)) (k l : List ℕ) → opens k ≡ true → opens l ≡ true → value_of opens key (k ∷ rs) ≡ value_of opens key (l ∷ qs) →
      value_of opens key (xs ++ k ∷ rs) ≡ value_of opens key (xs ++ l ∷ qs)
  value-same key [] rs qs k l is other same = same
  value-same key (x ∷ xs) rs qs k l is other same = grind (arith, common_steps, value-same key xs rs qs k l is other same, before-same)

  -- a keyword, and what follows it
  value-first :
      (key k : List ℕ) (v rest : List (List ℕ)) → IsKeyword opens k v → before_key opens rest ≡ [] →
      value_of opens key (k ∷ (v ++ rest)) ≡ cond (are_alike k key) (Some v) (value_of opens key rest)
  value-first key k v rest are none = rw (are.0, before-plain opens v rest are.1, none, append-nil v, value-plain opens key v rest are.1) refl

  value-moved :
      (key : List ℕ) (before after : List (List ℕ)) (k l : List ℕ) (v w : List (List ℕ)) →
      IsKeyword opens k v → IsKeyword opens l w → are_alike k l ≡ false → before_key opens after ≡ [] →
      value_of opens key (before ++ k ∷ (v ++ l ∷ (w ++ after))) ≡ value_of opens key (before ++ l ∷ (w ++ k ∷ (v ++ after)))
  value-moved key before after k l v w one two differ none = search (rules, one, two, differ, none, value-same, false≢true, value-first, stops)

  moved : (start : List (List ℕ) → List (List ℕ)) (canonical : List ℕ → List ℕ → List ℕ) → OrderChangesNothing opens (λ ss. start (before_key opens ss) ++ form.keywords_form opens canonical ss)
  moved start canonical before after k l v w one two differ none = grind (arith, common_steps, before-same, same-values, value-moved)

pub unicode_moved : OrderChangesNothing is_key unicode_form
unicode_moved = moved is_key in_alphabet unicode_value

pub transform_moved : OrderChangesNothing is_field_key transform_form
transform_moved = moved is_field_key language_form transform_value
