-- The form of a tag is a tag: its extensions are well-formed.
use Rattle.langtag_keyword.proofs.Common.{common_steps, ◌≡◌, ℕ, ◌≤◌, ◌&&◌, ◌||◌, not, Bool, true, false, List, [], ◌∷◌, ◌++◌, length, map, Some, unwrap_or, refl, sym, ap, subst, ◌∙◌, arith, find, Option, None, and_parts, false≢true, nat_tests, AllByRecursion, filter, flat_map, list_all, is_some, classes-fold, of_extension_subtag, each_from_test, each_subtag, subtags-joined, each-append, fold_text, is_alphanumeric, Extension, IsWellFormed, IsWellFormedExtension, Record, join, subtags, Alias, TypeAlias, alias_for, type_alias_for, is_type, changed_from, edited, extension_of, is_this_key, keyword_error, put_keyword, without_within, extension_form, forms_after, in_alphabet, is_of, is_transform, transform_form, unicode_form, unicode_value, before_key, is_key, value_of, is_field_key, Classes, IsTrue, each-map}
use Rattle.std.proofs.Common.{length-append}
use Rattle.langtag_scan.specs.Class.{is_digit, is_extension_subtag, is_letter, is_mark, is_singleton}
use Rattle.langtag_keyword.specs.Aliases.{subdivision_aliases, transform_type_aliases, unicode_type_aliases}
use Rattle.langtag_keyword.specs.Edit.{edited_record}
use Rattle.langtag_keyword.specs.Form.{extensions_record, transform_value}
use Rattle.langtag_keyword.proofs.KeywordsInForm.{each-has}
use Rattle.langtag_keyword.proofs.AlphabetLaws.{each-alphabet, each-before}
use Rattle.langtag_keyword.proofs.KeywordLaws.{form_by, form_tested, fits_from, types-each}
use Rattle.langtag_keyword.proofs.VariantLengths.{put-some}
use Rattle.langtag_keyword.specs.Form as form

-- each is a subtag of an extension
abbrev pub Good : List (List ℕ) → Type 0
Good ss = AllByRecursion (λ s. IsTrue (is_extension_subtag s)) ss

-- ---- case

good-fold : (s : List ℕ) → is_extension_subtag (fold_text s) ≡ is_extension_subtag s
good-fold s = ap (λ (c : Classes). c.extension_subtag) (classes-fold s)

good-lower : (ss : List (List ℕ)) → Good ss → Good (map fold_text ss)
good-lower = each-map (λ s. IsTrue (is_extension_subtag s)) (λ s. IsTrue (is_extension_subtag s)) fold_text (λ s good. good-fold s ∙ good)

-- ---- in the order of the alphabet

good-alphabet : (ss : List (List ℕ)) → Good ss → Good (in_alphabet ss)
good-alphabet = each-alphabet (λ s. IsTrue (is_extension_subtag s)) (λ s good. good-fold s ∙ good)

-- ---- values

good-before : (test : List ℕ → Bool) (ss : List (List ℕ)) → Good ss → Good (before_key test ss)
good-before = each-before (λ s. IsTrue (is_extension_subtag s))

pub good-value : (test : List ℕ → Bool) (key : List ℕ) (ss v : List (List ℕ)) → Good ss → value_of test key ss ≡ Some v → Good v
good-value test key [] v good found = absurd cc
good-value test key (s ∷ ss) v good found = grind (arith, nat_tests, good-value test key ss v good.1, good-before test ss good.1)

-- the subtags of a text are those of an extension
abbrev GoodText : List ℕ → Type 0
GoodText text = Good (subtags text)

good-joined : (ss : List (List ℕ)) → Good ss → GoodText (join ss)
good-joined ss good = subst Good (sym (subtags-joined ss (each_subtag is_extension_subtag of_extension_subtag ss good))) good

-- what the new texts pass holds of values in canonical form, if it holds of the values
module _ (good : List ℕ → Bool) (P : List ℕ → Type 0) (shows : (text : List ℕ) → good text ≡ true → P text) where
  pass-alias : (rows : List Alias) (text : List ℕ) → list_all (λ row. good row.new) rows ≡ true → P text → P (unwrap_or (alias_for rows text) text)
  pass-alias [] text all is = is
  pass-alias (row ∷ rows) text all is = grind (arith, nat_tests, and_parts (good row.new), shows row.new, pass-alias rows text)

  pub pass-type : (rows : List TypeAlias) (key text : List ℕ) → list_all (λ row. good row.new) rows ≡ true → P text → P (unwrap_or (type_alias_for rows key text) text)
  pass-type [] key text all is = is
  pass-type (row ∷ rows) key text all is = grind (arith, nat_tests, and_parts (good row.new), shows row.new, pass-type rows key text)

module _ (test : List ℕ → Bool) where
  abbrev pub Passes : List ℕ → Type 0
  Passes text = AllByRecursion (λ s. IsTrue (test s)) (subtags text)

  abbrev passes : List ℕ → Bool
  passes text = list_all test (subtags text)

  shown : (text : List ℕ) → passes text ≡ true → Passes text
  shown text = each_from_test test (subtags text)

  pass-unicode :
      list_all (λ row. passes row.new) subdivision_aliases ≡ true → list_all (λ row. passes row.new) unicode_type_aliases ≡ true → (key value : List ℕ) → Passes value → Passes (unicode_value key value)
  unfolding form.subdivision form.unicode_type
  pass-unicode subdivisions types key value good =
      grind (arith, nat_tests, pass-alias passes Passes shown subdivision_aliases value subdivisions good, pass-type passes Passes shown unicode_type_aliases key value types good)

good-unicode : (key value : List ℕ) → GoodText value → GoodText (unicode_value key value)
unfolding subdivision_aliases unicode_type_aliases is_extension_subtag is_letter is_digit
good-unicode = pass-unicode is_extension_subtag refl refl

pub types-unicode : (key value : List ℕ) → Passes is_type value → Passes is_type (unicode_value key value)
unfolding subdivision_aliases unicode_type_aliases is_extension_subtag is_letter is_digit
types-unicode = pass-unicode is_type refl refl

pub good-transform : (key value : List ℕ) → GoodText value → GoodText (transform_value key value)
unfolding transform_value transform_type_aliases is_extension_subtag is_letter is_digit
good-transform key value good = pass-type (passes is_extension_subtag) GoodText (shown is_extension_subtag) transform_type_aliases key value refl good

-- ---- keywords

good-flat : (f : List ℕ → List (List ℕ)) (keys : List (List ℕ)) → ((key : List ℕ) → IsTrue (is_extension_subtag key) → Good (f key)) → Good keys → Good (flat_map f keys)
good-flat f [] make good = tt
good-flat f (key ∷ keys) make good = each-append _ (f key) (flat_map f keys) (make key good.0) (good-flat f keys make good.1)

good-filter : (test : List ℕ → Bool) (ss : List (List ℕ)) → Good ss → Good (filter test ss)
good-filter test [] good = tt
good-filter test (s ∷ ss) good = grind (arith, nat_tests, good-filter test ss good.1)

pub good-key : (a b : ℕ) → is_alphanumeric a ≡ true → is_alphanumeric b ≡ true → is_extension_subtag (a ∷ b ∷ []) ≡ true
unfolding is_extension_subtag
good-key a b one two = rw (one, two) refl

module _ (opens : List ℕ → Bool) (canonical : List ℕ → List ℕ → List ℕ) where
  good-keyword :
      ((key value : List ℕ) → GoodText value → GoodText (canonical key value)) → (ss : List (List ℕ)) → Good ss → (key : List ℕ) → IsTrue (is_extension_subtag key) →
      Good (form.keyword_form opens canonical ss key)
  good-keyword keeps ss good key one = grind (arith, nat_tests, good-lower, good-joined, good-value opens key ss)

  pub good-keywords :
      ((key value : List ℕ) → GoodText value → GoodText (canonical key value)) → (ss : List (List ℕ)) → Good ss → Good (form.keywords_form opens canonical ss)
  good-keywords keeps ss good =
      good-flat (form.keyword_form opens canonical ss) (form.keys_in_order opens ss) (good-keyword keeps ss good) (good-alphabet (filter opens ss) (good-filter opens ss good))

  -- a key puts something
  some-key : (s : List ℕ) (ss : List (List ℕ)) → opens s ≡ true → 1 ≤ length (form.keywords_form opens canonical (s ∷ ss))
  some-key s ss is = by_keys (form.keys_in_order opens (s ∷ ss)) (grind (arith, nat_tests, put-some (fold_text s) (in_alphabet (filter opens ss)))) (each-has opens (s ∷ ss))
    where
      by_keys : (keys : List (List ℕ)) → 1 ≤ length keys → AllByRecursion (λ k. is_some (value_of opens k (s ∷ ss)) ≡ true) keys →
          1 ≤ length (flat_map (form.keyword_form opens canonical (s ∷ ss)) keys)
      by_keys [] none has = absurd (omega (arith, none))
      by_keys (key ∷ keys) none has = grind (arith, nat_tests)

-- ---- the forms of `u` and `t`

pub good-unicode_form : (ss : List (List ℕ)) → Good ss → Good (unicode_form ss)
good-unicode_form ss good = grind (arith, common_steps, each-append, good-alphabet, good-before, good-keywords, good-unicode)

pub some-unicode_form : (ss : List (List ℕ)) → Good ss → 1 ≤ length ss → 1 ≤ length (unicode_form ss)
some-unicode_form [] good some = absurd (omega (arith, some))
some-unicode_form (s ∷ ss) good some =
    grind (arith, nat_tests, some-key is_key unicode_value s ss, put-some (fold_text s) (in_alphabet (before_key is_key ss)), length-append (in_alphabet (before_key is_key (s ∷ ss))) (form.keywords_form is_key unicode_value (s ∷ ss)))

good-one : (test : List ℕ → Bool) (ss : List (List ℕ)) → Good ss → Good (form.one_of test ss)
good-one test ss good = grind (arith, nat_tests)

good-after : (test : List ℕ → Bool) (ss : List (List ℕ)) → Good ss → Good (form.after_one test ss)
good-after test ss good = grind (arith, nat_tests)

good-transform_form : (ss : List (List ℕ)) → Good ss → Good (transform_form ss)
good-transform_form ss good =
    grind (arith, common_steps, each-append, good-before, good-keywords, good-transform, good-after, good-fold, good-lower, good-one, good-alphabet)

-- the form of `t` with some form of its language has a subtag
module _ (language : List (List ℕ) → List (List ℕ)) (has : (s : List ℕ) (ss : List (List ℕ)) → 1 ≤ length (language (s ∷ ss))) where
  pub some-transform :
      (ss : List (List ℕ)) → Good ss → 1 ≤ length ss → 1 ≤ length (language (before_key is_field_key ss) ++ form.keywords_form is_field_key transform_value ss)
  some-transform [] good some = absurd (omega (arith, some))
  some-transform (s ∷ ss) good some = grind (arith, nat_tests, some-key is_field_key transform_value s ss, length-append)

-- ---- extensions

good-extension : (u t : Bool) (e : Extension) → IsWellFormedExtension e → IsWellFormedExtension (extension_form u t e)
unfolding is_singleton is_letter is_digit is_mark
good-extension u t e fits = subst IsWellFormedExtension (sym (form_tested u t _ _ e refl refl)) (by_tests (is_of 117 e && not u) (is_of 116 e && not t && is_transform e.subtags))
  where
    by_tests : (a b : Bool) → IsWellFormedExtension (form_by a b e)
    by_tests true b = record { singleton = refl; some = some-unicode_form e.subtags fits.subtags fits.some; subtags = good-unicode_form e.subtags fits.subtags }
    by_tests false true = record { singleton = refl; some = some-transform form.language_form (λ s ss. omega arith) e.subtags fits.subtags fits.some; subtags = good-transform_form e.subtags fits.subtags }
    by_tests false false = fits

good-forms : (u t : Bool) (es : List Extension) → AllByRecursion IsWellFormedExtension es → AllByRecursion IsWellFormedExtension (forms_after u t es)
good-forms u t [] fits = tt
good-forms u t (e ∷ es) fits = (good-extension u t e fits.0, good-forms (u || is_of 117 e) (t || is_of 116 e) es fits.1)

pub form_well_formed : (r : Record) → IsWellFormed r → IsWellFormed (extensions_record r)
unfolding extensions_record
form_well_formed r well = grind (arith, nat_tests, good-forms false false r.extensions well.extensions)

-- ---- the subtags of `u`

good-without : (key : List ℕ) (inside : Bool) (ss : List (List ℕ)) → Good ss → Good (without_within key inside ss)
good-without key inside [] good = tt
good-without key inside (s ∷ ss) good = grind (arith, common_steps, good-without key true ss good.1, good-without key false ss good.1)

good-put : (key : List ℕ) (stands : Bool) (keyword ss : List (List ℕ)) → Good keyword → Good ss → Good (put_keyword key stands keyword ss)
good-put key stands keyword [] these good = these
good-put key stands keyword (s ∷ ss) these good = grind (arith, common_steps, good-put key stands keyword ss these good.1, each-append, good-without)

good-standing : (key : List ℕ) (ss : List (List ℕ)) → is_extension_subtag key ≡ true → Good ss → is_extension_subtag (unwrap_or (find (is_this_key key) ss) key) ≡ true
good-standing key [] fits good = fits
good-standing key (s ∷ ss) fits good = grind (arith, common_steps, good-standing key ss fits good.1)

good-edited : (key : List ℕ) (value : Option (List (List ℕ))) → keyword_error key (unwrap_or value []) ≡ None → (ss : List (List ℕ)) → Good ss → Good (edited key value ss)
good-edited key None none ss good = good-without key false ss good
good-edited key (Some value) none ss good =
    grind (arith, common_steps, good-without, fits_from, types-each, and_parts, good-put, good-standing, false≢true, good-key)

-- ---- extensions

good-extension_of : (singleton : ℕ) (ss : List (List ℕ)) → is_singleton singleton ≡ true → Good ss → AllByRecursion IsWellFormedExtension (extension_of singleton ss)
good-extension_of singleton ss is good = grind (arith, nat_tests)

u_singleton : is_singleton 117 ≡ true
unfolding is_singleton is_letter is_digit is_mark
u_singleton = refl

module _ (change : List (List ℕ) → List (List ℕ)) (keeps : (ss : List (List ℕ)) → Good ss → Good (change ss)) where
  pub good-changed : (stands : Bool) (es : List Extension) → AllByRecursion IsWellFormedExtension es → AllByRecursion IsWellFormedExtension (changed_from change stands es)
  good-changed stands [] fits = good-extension_of 117 (change []) u_singleton (keeps [] tt)
  good-changed stands (e ∷ es) fits = grind (arith, common_steps, good-changed stands es fits.1, good-extension_of, u_singleton, each-append, fits.0)

-- ---- the record

pub edited_well_formed :
    (key : List ℕ) (value : Option (List (List ℕ))) → keyword_error key (unwrap_or value []) ≡ None → (r : Record) → IsWellFormed r → IsWellFormed (edited_record key value r)
unfolding edited_record
edited_well_formed key value none r well = grind (arith, common_steps, good-changed, good-edited)
