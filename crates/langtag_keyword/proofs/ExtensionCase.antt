-- The case of letters changes nothing in the forms of extensions but case.
use Rattle.langtag_scan.specs.Grammar.{classes_of}
use Rattle.langtag_keyword.proofs.Common.{common_steps, ◌≡◌, ℕ, Bool, false, ◌||◌, ◌==◌, List, [], ◌∷◌, map, Option, option_map, unwrap_or, refl, ap, ◌∙◌, arith, list_any, nat_tests, classes-fold, fold_text-twice, length-fold, AlikeRecords, Alike, are_alike, fold_text, is_region, is_script, Extension, Record, Classes, join, type_alias_for, after_one, are_different_variants, are_fields, extension_form, forms_after, language_form, is_language_or_none, is_of, is_transform, one_of, transform_form, unicode_form, unicode_value, before_key, value_of, is_field_key}
use Rattle.langtag_text.proofs.Alike.{AlikeFields, same_fields}
use Rattle.langtag_scan.proofs.CaseLaw.{fold_byte-twice, join-fold, map-twice, subtags-fold, fold_extension-twice}
use Rattle.langtag_scan.specs.AlikeRecords.{fold_extension}
use Rattle.langtag_keyword.specs.Aliases.{transform_type_aliases}
use Rattle.langtag_keyword.specs.Form as form
use Rattle.langtag_keyword.specs.Form.{extensions_record, may_follow, subdivision, transform_value, unicode_type, without_true}
use Rattle.langtag_keyword.specs.Identifier.{first_subtag, identifier_fields, identifier_variants}
use Rattle.langtag_keyword.proofs.AlphabetLaws.{in_alphabet-alike}
use Rattle.langtag_keyword.proofs.CanonicalKeywords.{key-fold}
use Rattle.langtag_keyword.proofs.CanonicalValues.{replaced}
use Rattle.langtag_keyword.proofs.KeywordLaws.{form_by, form_tested, forms-next}
use Rattle.langtag_keyword.proofs.FormTwice.{language-parts, lower_fields, unicode_language-fold}
use Rattle.langtag_keyword.proofs.Aliases.{alias_for-alike, type_alias_for-alike}
use Rattle.langtag_keyword.proofs.KeywordsInForm.{same-values}
use Rattle.langtag_keyword.proofs.WalkLaws.{field_key-fold}

pub lower-twice : (ss : List (List ℕ)) → map fold_text (map fold_text ss) ≡ map fold_text ss
lower-twice = map-twice fold_text fold_text-twice

-- ---- keywords

module _ (opens : List ℕ → Bool) (opens-fold : (s : List ℕ) → opens (fold_text s) ≡ opens s) where
  pub before-fold : (ss : List (List ℕ)) → before_key opens (map fold_text ss) ≡ map fold_text (before_key opens ss)
  before-fold [] = refl
  before-fold (s ∷ ss) = grind (arith, nat_tests, before-fold ss)

  value-fold : (key : List ℕ) (ss : List (List ℕ)) → value_of opens key (map fold_text ss) ≡ option_map (map fold_text) (value_of opens key ss)
  value-fold key [] = refl
  value-fold key (s ∷ ss) = grind (arith, nat_tests, fold_text-twice s, value-fold key ss, before-fold ss)

  module _ (canonical : List ℕ → List ℕ → List ℕ) (canonical-fold : (key text : List ℕ) → Alike (canonical key (fold_text text)) (canonical key text)) where
    pub keywords-fold : (ss : List (List ℕ)) → form.keywords_form opens canonical (map fold_text ss) ≡ form.keywords_form opens canonical ss
    keywords-fold ss =
        same-values opens canonical (map fold_text ss) ss
        (λ k low. grind (arith, nat_tests, value-fold k ss, join-fold, λ (w : List (List ℕ)). subtags-fold (canonical k (fold_text (join w))), λ (w : List (List ℕ)). subtags-fold (canonical k (join w)), canonical-fold k))

-- ---- values

or_fold : (o : Option (List ℕ)) (text : List ℕ) → Alike (unwrap_or o (fold_text text)) (unwrap_or o text)
or_fold o text = grind (arith, nat_tests, fold_text-twice text)

replaced-fold : (key text : List ℕ) → Alike (replaced key (fold_text text)) (replaced key text)
unfolding subdivision unicode_type
replaced-fold key text = grind (arith, nat_tests, alias_for-alike, fold_text-twice, or_fold, type_alias_for-alike)

unicode_value-fold : (key text : List ℕ) → Alike (unicode_value key (fold_text text)) (unicode_value key text)
unicode_value-fold key text = grind (arith, nat_tests, replaced-fold key text)

pub transform_value-fold : (key text : List ℕ) → Alike (transform_value key (fold_text text)) (transform_value key text)
unfolding transform_value
transform_value-fold key text = ap (λ o. fold_text (unwrap_or o (fold_text text))) (type_alias_for-alike transform_type_aliases key key (fold_text text) text refl (fold_text-twice text)) ∙ or_fold (type_alias_for transform_type_aliases key text) text

-- ---- the extension `u`

pub unicode-fold : (ss : List (List ℕ)) → unicode_form (map fold_text ss) ≡ unicode_form ss
unicode-fold ss = grind (arith, common_steps, before-fold, key-fold, in_alphabet-alike, lower-twice, keywords-fold, unicode_value-fold)

-- ---- the language of `t`

module _ (is : Classes → Bool) where
  one-fold : (ss : List (List ℕ)) → first_subtag (one_of (λ s. is (classes_of s)) (map fold_text ss)) ≡ fold_text (first_subtag (one_of (λ s. is (classes_of s)) ss))
  one-fold ss = grind (arith, nat_tests, classes-fold)

  after-fold : (ss : List (List ℕ)) → after_one (λ s. is (classes_of s)) (map fold_text ss) ≡ map fold_text (after_one (λ s. is (classes_of s)) ss)
  after-fold ss = grind (arith, nat_tests, classes-fold)

pub variants-fold : (ss : List (List ℕ)) → identifier_variants (map fold_text ss) ≡ map fold_text (identifier_variants ss)
variants-fold ss = ap (after_one is_region) (after-fold (λ c. c.script) ss) ∙ after-fold (λ c. c.region) (after_one is_script ss)

pub fields-fold : (s : List ℕ) (ss : List (List ℕ)) → AlikeFields (identifier_fields (fold_text s) (map fold_text ss)) (identifier_fields s ss)
fields-fold s ss = grind (arith, nat_tests, fold_text-twice, one-fold (λ c. c.script), after-fold (λ c. c.script), one-fold (λ c. c.region))

-- ---- whether `t` is allowed

any-fold : (v : List ℕ) (vs : List (List ℕ)) → list_any (are_alike (fold_text v)) (map fold_text vs) ≡ list_any (are_alike v) vs
any-fold v [] = refl
any-fold v (w ∷ vs) = rw (fold_text-twice v, fold_text-twice w, any-fold v vs) refl

different-fold : (vs : List (List ℕ)) → are_different_variants (map fold_text vs) ≡ are_different_variants vs
different-fold [] = refl
different-fold (v ∷ vs) = rw (ap (λ (c : Classes). c.variant) (classes-fold v), any-fold v vs, different-fold vs) refl

language_or_none-fold : (ss : List (List ℕ)) → is_language_or_none (map fold_text ss) ≡ is_language_or_none ss
language_or_none-fold ss = grind (arith, common_steps, unicode_language-fold, variants-fold, different-fold)

are_fields-fold : (inside after : Bool) (ss : List (List ℕ)) → are_fields inside after (map fold_text ss) ≡ are_fields inside after ss
are_fields-fold inside after [] = refl
are_fields-fold inside after (s ∷ ss) = rw (field_key-fold s, length-fold s, are_fields-fold (inside || is_field_key s) (is_field_key s) ss) refl

pub is_transform-fold : (ss : List (List ℕ)) → is_transform (map fold_text ss) ≡ is_transform ss
is_transform-fold ss = rw (before-fold is_field_key field_key-fold ss, language_or_none-fold (before_key is_field_key ss), are_fields-fold false false ss) refl

-- ---- the form of the extension `t`, with its case and the order of its variants changed alone

language_form-fold : (ss : List (List ℕ)) → language_form (map fold_text ss) ≡ language_form ss
language_form-fold ss = grind (arith, nat_tests, fields-fold, language-parts, same_fields, lower_fields, in_alphabet-alike, variants-fold, lower-twice)

transform_form-fold : (ss : List (List ℕ)) → transform_form (map fold_text ss) ≡ transform_form ss
transform_form-fold ss = grind (arith, common_steps, before-fold, field_key-fold, language_form-fold, keywords-fold, transform_value-fold)

-- ---- extensions

pub is_of-fold : (n : ℕ) (e : Extension) → is_of n (fold_extension e) ≡ is_of n e
is_of-fold n e = ap (λ b. b == n) (fold_byte-twice e.singleton)

-- ---- the forms of the first `u` and the first `t`

one_form-fold : (u t : Bool) (e : Extension) → fold_extension (extension_form u t (fold_extension e)) ≡ fold_extension (extension_form u t e)
one_form-fold u t e = grind (arith, common_steps, form_tested, is_of-fold, is_transform-fold, form_by, unicode-fold, transform_form-fold, fold_extension-twice)

forms-fold : (u t : Bool) (es : List Extension) → map fold_extension (forms_after u t (map fold_extension es)) ≡ map fold_extension (forms_after u t es)
forms-fold u t [] = refl
forms-fold u t (e ∷ es) = grind (arith, common_steps, forms-fold (u || is_of 117 e) (t || is_of 116 e) es, forms-next, one_form-fold, is_of-fold)

pub record-alike : (r q : Record) → AlikeRecords r q → AlikeRecords (extensions_record r) (extensions_record q)
unfolding extensions_record
record-alike r q alike = grind (arith, nat_tests, forms-fold false false r.extensions, forms-fold false false q.extensions)
