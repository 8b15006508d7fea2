-- The extension `u` in canonical form stays in that form when a canonical keyword is set, or a key is removed.
use Rattle.langtag_keyword.proofs.Common.{rules, ◌≡◌, ℕ, ◌==◌, ◌&&◌, Bool, true, false, List, [], ◌∷◌, ◌++◌, map, find, Option, None, Some, option_map, unwrap_or, refl, sym, ap, subst, ◌∙◌, arith, ◌≤◌, ◌||◌, not, length, append-nil, append_assoc, common_steps, flat_map-append, and_parts, false≢true, nat_tests, AllByRecursion, filter, is_some, fold_text-twice, length-fold, of_extension_subtag, each_subtag, subtags-joined, are_alike, fold_text, are_alphanumeric, join, subtags, is_this_key, is_type, is_unicode_key, keyword_error, with_keyword, without_keyword, without_within, changed_from, extension_of, in_alphabet, put_among, unicode_form, unicode_value, extension_form, forms_after, is_of, is_transform, before_key, is_key, value_of, Extension, IsWellFormed, IsWellFormedExtension, Record, IsTrue, each-map}
use Rattle.langtag_text.proofs.Alike.{alike_length}
use Rattle.langtag_scan.proofs.CaseLaw.{is_digit-fold, is_letter-fold}
use Rattle.langtag_scan.specs.Grammar.{fold_byte, has_length, is_extension_subtag}
use Rattle.langtag_keyword.specs.Edit.{IsCanonicalKeyword, edited_record}
use Rattle.langtag_keyword.specs.Form.{keys_in_order, extensions_record}
use Rattle.langtag_keyword.proofs.AlphabetLaws.{each-alphabet, each-put, any-put, KeySplit, among, key-split, same-risen, Rise, rise-in_alphabet, rise-put, AreLower, lower-in_alphabet}
use Rattle.langtag_keyword.proofs.FormRecords.{Good, good-value, types-unicode}
use Rattle.langtag_keyword.proofs.KeywordBlocks.{AreValues, block, blocks, find-among, find-passed, put-among, put-passed, removed-among, without-passed, extension-some, find_u, some-put, u_is_u}
use Rattle.langtag_keyword.proofs.KeywordsInForm.{flat-put, flat-same, keys-have, plain-before}
use Rattle.langtag_keyword.proofs.KeywordLaws.{AreNoKeys, alike-itself, before-kept, before-put, fits_from, none_after_removal, others_after_removal, others_after_set, read_after_set, standing-this, type-no_key, form_by, form_tested}
use Rattle.langtag_keyword.specs.Form as form
use Rattle.langtag_keyword.proofs.KeywordsInForm as in_form

-- ---- values in canonical form have no keys

pub key-fold : (s : List ℕ) → is_key (fold_text s) ≡ is_key s
key-fold s = ap (λ n. n == 2) (length-fold s)

-- attributes in order have none, either
pub attributes-plain : (ss : List (List ℕ)) → AreNoKeys (in_alphabet (before_key is_key ss))
attributes-plain ss = each-alphabet (λ s. is_key s ≡ false) (λ s other. key-fold s ∙ other) (before_key is_key ss) (plain-before is_key ss)

-- what is found is the value of a key, and has no keys
found-value : (key : List ℕ) (ss w : List (List ℕ)) → value_of is_key key ss ≡ Some w → (is_key key ≡ true) × AreNoKeys w
found-value key [] w found = absurd cc
found-value key (s ∷ ss) w found =
    let plain : AreNoKeys (before_key is_key ss) = plain-before is_key ss in
    grind (arith, nat_tests, alike_length s key, plain, found-value key ss w)

types-from : (ss : List (List ℕ)) → Good ss → AreNoKeys ss → AllByRecursion (λ s. IsTrue (is_type s)) ss
unfolding is_extension_subtag
types-from [] good all = tt
types-from (s ∷ ss) good all = (grind (arith, nat_tests, and_parts (has_length 2 8 s) (are_alphanumeric s) good.0, all.0), types-from ss good.1 all.1)

-- so a canonical value has none
value-no_keys : (key : List ℕ) (w : List (List ℕ)) → Good w → AreNoKeys w → AreNoKeys (map fold_text (subtags (unicode_value key (join w))))
value-no_keys key w good all =
    each-map (λ s. IsTrue (is_type s)) (λ s. is_key s ≡ false) fold_text (λ s is. key-fold s ∙ type-no_key s is) (subtags (unicode_value key (join w)))
    (types-unicode key (join w) (subst (AllByRecursion (λ s. IsTrue (is_type s))) (sym (subtags-joined w (each_subtag is_extension_subtag of_extension_subtag w good))) (types-from w good all)))

-- the values in canonical form
abbrev pub values : List (List ℕ) → List ℕ → Option (List (List ℕ))
values ss key = option_map (λ w. map fold_text (subtags (unicode_value key (join w)))) (value_of is_key key ss)

pub values-are : (ss : List (List ℕ)) → Good ss → AreValues (values ss)
values-are ss good key v is = grind (arith, nat_tests, found-value key ss, good-value is_key key ss, value-no_keys key)

-- ---- the form, key after key

pub form-blocks : (ss : List (List ℕ)) → form.keywords_form is_key unicode_value ss ≡ blocks (values ss) (keys_in_order is_key ss)
form-blocks = in_form.form-blocks is_key unicode_value

pub alike-back : (a b : List ℕ) → are_alike a b ≡ false → are_alike b a ≡ false
alike-back a b apart = search (rules, apart, false≢true)

-- the keys with one more key
abbrev with_key : List ℕ → List (List ℕ) → List (List ℕ)
with_key key ss = put_among key (keys_in_order is_key ss)

module _ (key : List ℕ) (lower : fold_text key ≡ key) where
  lower-keys : (ss : List (List ℕ)) → AreLower (with_key key ss)
  lower-keys ss = each-put (λ s. fold_text s ≡ s) key (keys_in_order is_key ss) lower (lower-in_alphabet (filter is_key ss))

  rise-keys : (ss : List (List ℕ)) → Rise (with_key key ss)
  rise-keys ss = rise-put key (keys_in_order is_key ss) (rise-in_alphabet (filter is_key ss))

  pub split : (ss : List (List ℕ)) → KeySplit key (with_key key ss)
  split ss = grind (arith, common_steps, key-split, lower-keys, rise-keys, any-put, among, alike-itself)

  -- the form with a key more, which puts nothing if it has no value
  more-blocks : (ss : List (List ℕ)) → form.keywords_form is_key unicode_value ss ≡ blocks (values ss) (with_key key ss)
  more-blocks ss = grind (arith, common_steps, form-blocks, flat-put (block (values ss)), lower-in_alphabet, rise-in_alphabet, keys-have, false≢true)

  -- subtags with the same values of other keys have the same keys with this one
  same-keys :
      (ss ts : List (List ℕ)) → ((other : List ℕ) → are_alike key other ≡ false → value_of is_key other ts ≡ value_of is_key other ss) → with_key key ts ≡ with_key key ss
  same-keys ss ts others = grind (arith, common_steps, same-risen, lower-keys, rise-keys, any-put, among, keys-have)

module _ (ss : List (List ℕ)) (good : Good ss) (own : unicode_form ss ≡ ss) (key : List ℕ) (lower : fold_text key ≡ key) where
  abbrev s : KeySplit key (with_key key ss)
  s = split key lower ss

  abbrev attributes : List (List ℕ)
  attributes = in_alphabet (before_key is_key ss)

  abbrev spelled : List (List ℕ) → List (List ℕ)
  spelled here = attributes ++ (blocks (values ss) s.before ++ (here ++ blocks (values ss) s.after))

  apart-form : (ts : List (List ℕ)) → blocks (values ts) (with_key key ss) ≡ blocks (values ts) s.before ++ (block (values ts) key ++ blocks (values ts) s.after)
  apart-form ts = ap (blocks (values ts)) s.is ∙ flat_map-append (block (values ts)) s.before (key ∷ s.after)

  shape : ss ≡ spelled (block (values ss) key)
  shape = sym own ∙ ap (λ t. attributes ++ t) (more-blocks key lower ss ∙ apart-form ss)

  removed-shape : without_keyword key ss ≡ spelled []
  removed-shape =
      grind (arith, common_steps, shape, without-passed key attributes, attributes-plain ss, removed-among (values ss) (values-are ss good) key s)

  set-shape : (v : List (List ℕ)) → with_keyword key v ss ≡ spelled (key ∷ v)
  set-shape v =
      grind (arith, common_steps, shape, attributes-plain ss, find-passed key attributes, put-passed key, find-among (values ss) (values-are ss good) key s, put-among (values ss) (values-are ss good) key s v)

  -- the form of other subtags with these attributes, and with these values of other keys
  other-form :
      (ts here : List (List ℕ)) → before_key is_key ts ≡ before_key is_key ss → ((other : List ℕ) → are_alike key other ≡ false → value_of is_key other ts ≡ value_of is_key other ss) →
      block (values ts) key ≡ here → unicode_form ts ≡ spelled here
  other-form ts here same others is =
      grind (arith, common_steps, same, more-blocks key lower ts, same-keys key lower ss ts others, apart-form ts, is, alike_blocks s.before s.before_others, alike_blocks s.after s.after_others)
    where
      alike_blocks : (keys : List (List ℕ)) → AllByRecursion (λ j. are_alike j key ≡ false) keys → blocks (values ts) keys ≡ blocks (values ss) keys
      alike_blocks = flat-same (λ j. are_alike j key ≡ false) (block (values ts)) (block (values ss)) (λ j apart. grind (arith, common_steps, others j (alike-back j key apart)))

  -- so a canonical keyword that is set, or a key that is removed, leaves the form
  canonical_set :
      (v : List (List ℕ)) → keyword_error key v ≡ None → map fold_text (subtags (unicode_value key (join v))) ≡ v → unicode_form (with_keyword key v ss) ≡ with_keyword key v ss
  canonical_set v none canonical =
      let fits = fits_from key v none in
      let standing = find (is_this_key key) ss in
      other-form (with_keyword key v ss) (key ∷ v)
      (before-put key (unwrap_or standing key) v (standing-this key ss fits.two) fits.no_keys (is_some standing) ss) (λ other differ. others_after_set key other v ss none differ)
      (grind (arith, nat_tests, read_after_set key v ss none, canonical))
      ∙ sym (set-shape v)

  removed_lower : unicode_form (without_keyword key ss) ≡ without_keyword key ss
  removed_lower =
      other-form (without_keyword key ss) [] (before-kept key ss) (λ other differ. others_after_removal key other ss differ) (grind (arith, nat_tests, none_after_removal key ss)) ∙ sym removed-shape

-- ---- the laws

without-fold : (key : List ℕ) (inside : Bool) (ss : List (List ℕ)) → without_within (fold_text key) inside ss ≡ without_within key inside ss
without-fold key inside [] = refl
without-fold key inside (s ∷ ss) = grind (arith, nat_tests, fold_text-twice key, without-fold key true ss, without-fold key false ss)

pub unicode_key-fold : (key : List ℕ) → is_unicode_key (fold_text key) ≡ is_unicode_key key
unicode_key-fold key = grind (arith, nat_tests, is_letter-fold, is_digit-fold)

pub canonical_removal : (key : List ℕ) (ss : List (List ℕ)) → keyword_error key [] ≡ None → Good ss → unicode_form ss ≡ ss → unicode_form (without_keyword key ss) ≡ without_keyword key ss
canonical_removal key ss none good own =
    grind (arith, nat_tests, without-fold key, removed_lower ss good own (fold_text key) (fold_text-twice key), fold_text-twice key)

-- ---- a tag in canonical form

-- whether an extension is a `t` that has a form
abbrev is_form : Bool → Extension → Bool
is_form t e = is_of 116 e && not t && is_transform e.subtags

form-u : (t : Bool) (e : Extension) → is_of 117 e ≡ true → extension_form false t e ≡ record { singleton = 117; subtags = unicode_form e.subtags }
form-u t e is = form_tested false t true (is_form t e) e (ap (λ b. b && true) is) refl

form-other : (u t : Bool) (e : Extension) → is_of 117 e ≡ false → extension_form u t e ≡ form_by false (is_form t e) e
form-other u t e is = form_tested u t false (is_form t e) e (ap (λ b. b && not u) is) refl

u_is_no_t : (ss : List (List ℕ)) → is_of 116 (record { singleton = 117; subtags = ss }) ≡ false
unfolding fold_byte
u_is_no_t ss = refl

-- without a `u`, it makes no difference whether a `u` came before
forms-absent : (t : Bool) (es : List Extension) → find (is_of 117) es ≡ None → forms_after true t es ≡ forms_after false t es
forms-absent t [] none = refl
forms-absent t (e ∷ es) none = grind (arith, common_steps, form-other true t e, form-other false t e, forms-absent (t || is_of 116 e) es)

module _
    (change : List (List ℕ) → List (List ℕ)) (some : (ss : List (List ℕ)) → 1 ≤ length (change ss))
    (keeps : (ss : List (List ℕ)) → Good ss → unicode_form ss ≡ ss → unicode_form (change ss) ≡ change ss)
  where
    new-u : (t : Bool) (rest : List Extension) → forms_after true t rest ≡ rest → forms_after false t (extension_of 117 (change []) ++ rest) ≡ extension_of 117 (change []) ++ rest
    new-u t rest own =
        grind (arith, common_steps, extension-some 117 (change []) (some []), form-u t (record { singleton = 117; subtags = change [] }), u_is_u (change []), keeps [] tt refl, u_is_no_t (change []))

    forms-changed :
        (t stands : Bool) (es : List Extension) → AllByRecursion IsWellFormedExtension es → (stands ≡ false → find (is_of 117) es ≡ None) → forms_after false t es ≡ es →
        forms_after false t (changed_from change stands es) ≡ changed_from change stands es
    forms-changed t stands [] fits absent own = grind (arith, nat_tests, append-nil, new-u t [])
    forms-changed t stands (e ∷ es) fits absent own =
        grind (arith, common_steps, form-u t e, extension-some e.singleton (change e.subtags) (some e.subtags), append_assoc, new-u, forms-absent, false≢true, forms-changed (t || is_of 116 e) stands es fits.1)

pub canonical_tag :
    (key : List ℕ) (v : List (List ℕ)) (r : Record) → keyword_error key v ≡ None → IsCanonicalKeyword key v → IsWellFormed r → extensions_record r ≡ r →
    extensions_record (edited_record key (Some v) r) ≡ edited_record key (Some v) r
unfolding extensions_record edited_record
canonical_tag key v r none canonical well own = grind (arith, common_steps, forms-changed, some-put, canonical_set, find_u, false≢true)
