-- The form of the extension `u`, and of `t`, is its own form.
use Rattle.std.proofs.lemmas.Bool.Decides.{nat_tests}
use Rattle.langtag_keyword.proofs.Common.{common_steps, arith, ◌≡◌, ℕ, Bool, true, false, not, ◌&&◌, ◌==◌, List, [], ◌∷◌, ◌++◌, length, map, refl, sym, ap, subst, ◌∙◌, ◌||◌, classes-fold, fold_text-twice, length-fold, fold_text, is_primary, is_variant, one_flat, Extension, IsWellFormed, IsWellFormedExtension, Record, Classes, subtags, are_different_variants, are_fields, in_alphabet, is_language_or_none, is_transform, is_unicode_language, language_form, one_of, transform_form, transform_value, unicode_form, unicode_value, extension_form, forms_after, is_of, before_key, is_key, is_field_key, both, AllByRecursion}
use Rattle.langtag_text.specs.Fields.{Fields, subtag_of}
use Rattle.langtag_scan.specs.Grammar.{fold_byte, is_region, is_script}
use Rattle.langtag_keyword.specs.Form.{extensions_record}
use Rattle.langtag_keyword.specs.Identifier.{first_subtag, identifier_fields, identifier_flat, identifier_variants}
use Rattle.langtag_keyword.proofs.AlphabetLaws.{in_alphabet-twice, each-alphabet}
use Rattle.langtag_keyword.proofs.CanonicalKeywords.{attributes-plain, values-are}
use Rattle.langtag_keyword.proofs.CanonicalValues.{transform-settled, unicode-settled}
use Rattle.langtag_keyword.proofs.FormRecords.{Good}
use Rattle.langtag_keyword.proofs.IdentifierParts.{AreSubtags, AreVariants, different_variants, fields_good, alphabet-apart}
use Rattle.langtag_keyword.proofs.KeywordsInForm.{front-again, keywords-again}
use Rattle.langtag_keyword.proofs.TransformParts.{AreNoFields, after_region, after_script, are-fields, field_values, identifier-no_field, identifier-variants, variant-no_region, variant-no_script, region-no_script}
use Rattle.langtag_keyword.proofs.KeywordLaws.{form_by, form_tested, forms-next}
use Rattle.langtag_keyword.specs.Form as form
use Rattle.langtag_text.proofs.Alike.{same_fields}

-- ---- the extension `u`

pub unicode-twice : (ss : List (List ℕ)) → Good ss → unicode_form (unicode_form ss) ≡ unicode_form ss
unicode-twice ss good =
    let values = values-are ss good in
    let front : List (List ℕ) = in_alphabet (before_key is_key ss) in
    let again = front-again is_key unicode_value ss values front (attributes-plain ss) in
    grind (arith, common_steps, again, in_alphabet-twice, keywords-again is_key unicode_value ss values front (attributes-plain ss) unicode-settled)

-- ---- the parts of a language identifier are read again

-- the subtags after the language
abbrev pub after_language : Fields → List (List ℕ) → List (List ℕ)
after_language f vs = one_flat (subtag_of f.script) ++ (one_flat (subtag_of f.region) ++ vs)

pub fields-again : (f : Fields) (vs : List (List ℕ)) → AreSubtags f → AreVariants vs → identifier_fields f.language (after_language f vs) ≡ f
fields-again f vs subtags variants = grind (arith, common_steps, same_fields, after_script, region-no_script, variant-no_script, variant-no_region)

pub variants-again : (f : Fields) (vs : List (List ℕ)) → AreSubtags f → AreVariants vs → identifier_variants (after_language f vs) ≡ vs
variants-again f vs subtags variants = grind (arith, common_steps, after_script, after_region)

-- ---- the language of `t`, with its case and the order of its variants changed alone

abbrev pub lower_fields : Fields → Fields
lower_fields f = record { language = fold_text f.language; script = fold_text f.script; region = fold_text f.region }

lower_subtag : (test : List ℕ → Bool) → test [] ≡ false → (ss : List (List ℕ)) → map fold_text (one_of test ss) ≡ one_flat (subtag_of (fold_text (first_subtag (one_of test ss))))
lower_subtag test none [] = refl
lower_subtag test none ([] ∷ ss) = grind (arith, common_steps)
lower_subtag test none ((b ∷ s) ∷ ss) = grind (arith, common_steps)

pub language-parts : (s : List ℕ) (ss : List (List ℕ)) → language_form (s ∷ ss) ≡ identifier_flat (lower_fields (identifier_fields s ss)) (in_alphabet (identifier_variants ss))
unfolding is_script is_region
language-parts s ss = grind (arith, common_steps, lower_subtag)

pub unicode_language-fold : (s : List ℕ) → is_unicode_language (fold_text s) ≡ is_unicode_language s
unicode_language-fold s = ap (λ (c : Classes). c.primary && not (length (fold_text s) == 4)) (classes-fold s) ∙ ap (λ n. is_primary s && not (n == 4)) (length-fold s)

lower-subtags : (f : Fields) → AreSubtags f → AreSubtags (lower_fields f)
lower-subtags f subtags = grind (arith, common_steps, unicode_language-fold, classes-fold f.script, classes-fold f.region)

pub alphabet-variants : (vs : List (List ℕ)) → AreVariants vs → AreVariants (in_alphabet vs)
alphabet-variants vs variants = each-alphabet (λ v. is_variant v ≡ true) (λ v is. ap (λ (c : Classes). c.variant) (classes-fold v) ∙ is) vs variants

lower-twice : (f : Fields) → lower_fields (lower_fields f) ≡ lower_fields f
lower-twice f = same_fields (lower_fields (lower_fields f)) (lower_fields f) (fold_text-twice f.language) (fold_text-twice f.script) (fold_text-twice f.region)

-- a form of the language of `t`: it is one, has no key of a field, and is its own form
pub record IsLanguageForm (language : List (List ℕ) → List (List ℕ)) (ss : List (List ℕ)) : Type 0 where
  pub none : AreNoFields (language ss)
  pub allowed : is_language_or_none (language ss) ≡ true
  pub twice : language (language ss) ≡ language ss

pub language-is_form : (ss : List (List ℕ)) → is_language_or_none ss ≡ true → IsLanguageForm language_form ss
language-is_form [] is = record { none = tt; allowed = refl; twice = refl }
language-is_form (s ∷ ss) is =
    let vs = identifier_variants ss in
    let parts = both (is_unicode_language s) (are_different_variants vs) is in
    let f : Fields = lower_fields (identifier_fields s ss) in
    let new = in_alphabet vs in
    let subtags : AreSubtags f = lower-subtags (identifier_fields s ss) (fields_good s ss parts.0) in
    let variants = alphabet-variants vs (different_variants vs parts.1) in
    let same = language-parts s ss in
    let read = language-parts f.language (after_language f new) in
    record {
      none = subst AreNoFields (sym same) (identifier-no_field f new subtags variants);
      allowed =
          grind (arith, common_steps, same, subtags.language, identifier-variants f new subtags variants (alphabet-apart vs));
      twice =
          grind (arith, common_steps, same, read, fields-again f new subtags variants, variants-again f new subtags variants, lower-twice (identifier_fields s ss), in_alphabet-twice vs);
    }

-- ---- the extension `t`

-- `t` whose language has some form
module _ (language : List (List ℕ) → List (List ℕ)) where
  abbrev pub form_with : List (List ℕ) → List (List ℕ)
  form_with ss = language (before_key is_field_key ss) ++ form.keywords_form is_field_key transform_value ss

  module _ (ss : List (List ℕ)) (good : Good ss) (is : is_transform ss ≡ true) (form_is : IsLanguageForm language (before_key is_field_key ss)) where
    fields_are : are_fields false false ss ≡ true
    fields_are = (both (is_language_or_none (before_key is_field_key ss)) (are_fields false false ss) is).1

    start-again : before_key is_field_key (form_with ss) ≡ language (before_key is_field_key ss)
    start-again = front-again is_field_key transform_value ss (field_values ss good fields_are) (language (before_key is_field_key ss)) form_is.none

    pub with-twice : form_with (form_with ss) ≡ form_with ss
    with-twice = grind (arith, common_steps, start-again, form_is.twice, keywords-again is_field_key transform_value ss (field_values ss good fields_are) (language (before_key is_field_key ss)) form_is.none transform-settled)

    pub with-allowed : is_transform (form_with ss) ≡ true
    with-allowed = grind (arith, common_steps, start-again, form_is.allowed, are-fields ss good fields_are (language (before_key is_field_key ss)) form_is.none)

-- ---- the form of a tag's extensions

-- an extension and its form begin with alike singletons
form-of : (n : ℕ) (u t : Bool) (e : Extension) → is_of n (extension_form u t e) ≡ is_of n e
unfolding fold_byte
form-of n u t e = grind (arith, common_steps, form_tested, form_by, both)

extension-again : (u t : Bool) (e : Extension) → IsWellFormedExtension e → extension_form u t (extension_form u t e) ≡ extension_form u t e
unfolding fold_byte
extension-again u t e fits = subst (λ x. extension_form u t x ≡ x) (sym (form_tested u t _ _ e refl refl)) (by_tests (is_of 117 e && not u) (is_of 116 e && not t && is_transform e.subtags) refl refl)
  where
    by_tests : (a b : Bool) → (is_of 117 e && not u) ≡ a → (is_of 116 e && not t && is_transform e.subtags) ≡ b → extension_form u t (form_by a b e) ≡ form_by a b e
    by_tests true b one two = grind (arith, nat_tests, both, form_tested, unicode-twice)
    by_tests false true one two =
        let (this, allowed) = both (is_of 116 e && not t) (is_transform e.subtags) two in
        let first = (both (is_of 116 e) (not t) this).1 in
        let form = language-is_form (before_key is_field_key e.subtags) (both (is_language_or_none (before_key is_field_key e.subtags)) (are_fields false false e.subtags) allowed).0 in
        form_tested u t false true (form_by false true e) refl (ap (λ b. b && is_transform (transform_form e.subtags)) first ∙ with-allowed language_form e.subtags fits.subtags allowed form)
        ∙ ap (λ ss. record { singleton = 116; subtags = ss }) (with-twice language_form e.subtags fits.subtags allowed form)
    by_tests false false one two = form_tested u t false false e one two

forms-again : (u t : Bool) (es : List Extension) → AllByRecursion IsWellFormedExtension es → forms_after u t (forms_after u t es) ≡ forms_after u t es
forms-again u t [] fits = refl
forms-again u t (e ∷ es) fits = grind (arith, common_steps, forms-again (u || is_of 117 e) (t || is_of 116 e) es fits.1, forms-next, extension-again, form-of)

pub record-again : (r : Record) → IsWellFormed r → extensions_record (extensions_record r) ≡ extensions_record r
unfolding extensions_record
record-again r well = ap (λ es. record r { extensions = es }) (forms-again false false r.extensions well.extensions)
