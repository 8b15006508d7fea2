-- The form of a Unicode locale identifier is its own form, and alike identifiers have the same form.
use Rattle.std.proofs.lemmas.Bool.Decides.{nat_tests}
use Rattle.langtag_keyword.proofs.Common.{each-weaker, common_steps, arith, ◌≡◌, ℕ, true, false, not, ◌||◌, ◌==◌, List, [], ◌∷◌, map, Some, refl, ap, ◌∙◌, eqb-true, Bool, cond, ◌&&◌, sym, None, option_map, unwrap_or, not-true, IsTrue, AllByRecursion, flat_map, list_all, list_any, each-append, each_from_test, are_alike, fold_text, Extension, IsWellFormed, IsWellFormedExtension, Record, spell, is_unicode_key, unicode_form, are_different_variants, are_fields, is_language_or_none, is_of, is_transform, is_unicode_language, is_key, value_of, before_key, both, found_has, extension_found, is_field_key, find_extension, find}
use Rattle.langtag.specs.Repeat.{are_alike_bytes}
use Rattle.langtag_text.specs.Fields.{Fields, subtag_of}
use Rattle.langtag.specs.Definitions.{singletons}
use Rattle.langtag_cldr.proofs.AddedTwice.{some_value}
use Rattle.langtag_cldr.specs.Matching.{language_replaced}
use Rattle.langtag_scan.proofs.Laws.{test_from_each, alike_parts}
use Rattle.langtag_scan.specs.Case.{fold_byte}
use Rattle.langtag_locale.specs.Locale.{is_unicode_subtag, is_locale_extension, is_locale_record, IsLocale}
use Rattle.langtag_locale.specs.LocaleForm.{extension_at, extensions_in_order, forms, locale_extension_form, new_variants, identifier_form, locale_record}
use Rattle.langtag_locale.specs.LocaleForm.{record_fields, transform_language_form, IsLocaleForm, locale_text}
use Rattle.langtag_keyword.proofs.CanonicalKeywords.{form-blocks, key-fold, unicode_key-fold, values, values-are}
use Rattle.langtag_keyword.proofs.AlphabetLaws.{each-alphabet, each-before}
use Rattle.langtag_keyword.proofs.FormRecords.{Good}
use Rattle.langtag_keyword.proofs.KeywordBlocks.{block, blocks}
use Rattle.langtag_keyword.proofs.KeywordLaws.{AreNoKeys}
use Rattle.langtag_locale.proofs.LocaleRecords.{locale_form_by, locale_form_tested, transform_allowed, all_allowed, new_variants_good, locale_well_formed}
use Rattle.langtag_keyword.proofs.Found.{found_is}
use Rattle.langtag_keyword.proofs.IdentifierParts.{Apart, alphabet-apart, none_repeated, different_variants, fields_good}
use Rattle.langtag_keyword.specs.Identifier.{identifier_fields, identifier_variants}
use Rattle.langtag_keyword.proofs.FormTwice.{IsLanguageForm, fields-again, variants-again, with-allowed, unicode-twice, with-twice}
use Rattle.langtag_locale.proofs.IdentifierForms.{form_subtags, record_subtags, form_is}
use Rattle.langtag_locale.proofs.ReadRecords.{own_locale_read, own_read}
use Rattle.langtag_locale.proofs.IdentifierTwice.{identifier_form-twice, new_variants-twice}
use Rattle.langtag_keyword.proofs.TransformParts.{identifier-no_field, identifier-variants}
use Rattle.langtag_text.proofs.RecommendedLaws.{recommended_alike}
use Rattle.langtag_text.specs.RecommendedCase.{recommended_text}
use Rattle.langtag_locale.proofs.LocaleCase.{locale-alike, text-alike}

-- ---- the variants

pub new_variants-apart : (variants : List (List ℕ)) (f : Fields) → Apart are_alike (new_variants variants f)
new_variants-apart variants f = alphabet-apart (forms (language_replaced f).language variants variants)

-- ---- the singletons

pub form_singleton : (e : Extension) → fold_byte (locale_extension_form e).singleton ≡ fold_byte e.singleton
unfolding fold_byte
form_singleton e = grind (arith, common_steps, locale_form_tested, locale_form_by)

-- no two letters are equal, in any case
abbrev are_apart : List ℕ → Bool
are_apart [] = true
are_apart (a ∷ xs) = list_all (λ b. not (fold_byte b == fold_byte a)) xs && are_apart xs

module _ (es : List Extension) where
  abbrev bytes : List ℕ → List ℕ
  bytes ns = map (λ e. e.singleton) (flat_map (extension_at es) ns)

  -- what stands at other singletons is not alike
  others-apart : (s n : ℕ) → fold_byte s ≡ fold_byte n → (ms : List ℕ) → list_all (λ m. not (fold_byte m == fold_byte n)) ms ≡ true → AllByRecursion (λ y. are_alike_bytes y s ≡ false) (bytes ms)
  others-apart s n same [] all = tt
  others-apart s n same (m ∷ ms) all = grind (arith, common_steps, both, not-true, form_singleton, eqb-true, found_is, others-apart s n same ms)

  bytes-apart : (ns : List ℕ) → are_apart ns ≡ true → Apart are_alike_bytes (bytes ns)
  bytes-apart [] all = tt
  bytes-apart (n ∷ ns) all =
      let parts = both (list_all (λ m. not (fold_byte m == fold_byte n)) ns) (are_apart ns) all in
      grind (arith, common_steps, bytes-apart ns parts.1, parts.0, form_singleton, eqb-true, found_is, others-apart)

  singletons_apart : are_apart singletons ≡ true
  unfolding fold_byte
  singletons_apart = refl

  pub singletons-apart : Apart are_alike_bytes (map (λ e. e.singleton) (extensions_in_order es))
  singletons-apart = bytes-apart singletons singletons_apart

-- ---- the extension `u`

-- each may be in `u`
abbrev pub MayBeInU : List (List ℕ) → Type 0
MayBeInU ss = AllByRecursion (λ s. IsTrue (is_unicode_subtag s)) ss

unicode_subtag-fold : (s : List ℕ) → is_unicode_subtag (fold_text s) ≡ is_unicode_subtag s
unicode_subtag-fold s = ap (λ b. not b || is_unicode_key (fold_text s)) (key-fold s) ∙ ap (λ b. not (is_key s) || b) (unicode_key-fold s)

-- a key that has a value stands among the subtags
key-standing : (key : List ℕ) (ss w : List (List ℕ)) → MayBeInU ss → value_of is_key key ss ≡ Some w → is_unicode_subtag key ≡ true
key-standing key [] w may found = absurd cc
key-standing key (s ∷ ss) w may found = grind (arith, common_steps, key-standing key ss w may.1, both, unicode_subtag-fold)

no_keys-may : (ss : List (List ℕ)) → AreNoKeys ss → MayBeInU ss
no_keys-may = each-weaker (λ s. is_key s ≡ false) (λ s. IsTrue (is_unicode_subtag s)) (λ s other. ap (λ b. not b || is_unicode_key s) other)

keywords-may : (ss : List (List ℕ)) → Good ss → MayBeInU ss → (keys : List (List ℕ)) → MayBeInU (blocks (values ss) keys)
keywords-may ss good may [] = tt
keywords-may ss good may (key ∷ keys) = grind (arith, common_steps, keywords-may ss good may keys, each-append, block, values, blocks, key-standing, no_keys-may, values-are)

pub unicode_form-may : (ss : List (List ℕ)) → Good ss → MayBeInU ss → MayBeInU (unicode_form ss)
unicode_form-may ss good may = grind (arith, common_steps, each-append, each-alphabet, unicode_subtag-fold, each-before, form-blocks, keywords-may)

-- ---- the extension `t`

-- the form of the language of `t` is one, and its own form
pub language-is_form : (ss : List (List ℕ)) → is_language_or_none ss ≡ true → IsLanguageForm transform_language_form ss
language-is_form [] is = record { none = tt; allowed = refl; twice = refl }
language-is_form (s ∷ ss) is =
    let f : Fields = identifier_fields s ss in
    let vs = identifier_variants ss in
    let parts = both (is_unicode_language s) (are_different_variants vs) is in
    let new : Fields = identifier_form vs f in
    let new_vs = new_variants vs f in
    let subtags = form_subtags vs f (fields_good s ss parts.0) in
    let variants = new_variants_good vs f (different_variants vs parts.1) in
    record {
      none = identifier-no_field new new_vs subtags variants;
      allowed = rw subtags.language (identifier-variants new new_vs subtags variants (new_variants-apart vs f));
      twice = rw (fields-again new new_vs subtags variants, variants-again new new_vs subtags variants, identifier_form-twice vs f, new_variants-twice vs f) refl;
    }

pub start-is_form : (ss : List (List ℕ)) → is_transform ss ≡ true → IsLanguageForm transform_language_form (before_key is_field_key ss)
start-is_form ss is = language-is_form (before_key is_field_key ss) (both (is_language_or_none (before_key is_field_key ss)) (are_fields false false ss) is).0

-- ---- extensions

pub unicode_allowed : (e : Extension) → is_of 117 e ≡ true → is_locale_extension e ≡ true → list_all is_unicode_subtag e.subtags ≡ true
unicode_allowed e one allowed = sym (ap (λ x. cond x (list_all is_unicode_subtag e.subtags) (cond (is_of 116 e) (is_transform e.subtags) true)) one) ∙ allowed

form-allowed : (e : Extension) → IsWellFormedExtension e → is_locale_extension e ≡ true → is_locale_extension (locale_extension_form e) ≡ true
unfolding fold_byte
form-allowed e fits allowed =
    grind (arith, common_steps, locale_form_tested (is_of 117 e) (is_of 116 e) e refl refl, unicode_allowed e, unicode_form-may e.subtags fits.subtags, each_from_test, test_from_each, transform_allowed e, with-allowed transform_language_form e.subtags fits.subtags, start-is_form e.subtags)

forms-allowed :
    (es : List Extension) → AllByRecursion IsWellFormedExtension es → list_all is_locale_extension es ≡ true → (ns : List ℕ) → list_all is_locale_extension (flat_map (extension_at es) ns) ≡ true
forms-allowed es fits allowed [] = refl
forms-allowed es fits allowed (n ∷ ns) = grind (arith, common_steps, forms-allowed es fits allowed ns, form-allowed, extension_found, found_has)

-- ---- the record

pub locale_settled : (r : Record) → IsWellFormed r → is_locale_record r ≡ true → is_locale_record (locale_record r) ≡ true
unfolding locale_record
locale_settled r fits locale =
    let form : Fields = identifier_form r.variants (record_fields r) in
    let subtags = form_subtags r.variants (record_fields r) (record_subtags r fits locale) in
    let variants = none_repeated are_alike (new_variants r.variants (record_fields r)) (new_variants-apart r.variants (record_fields r)) in
    let extensions = none_repeated are_alike_bytes (map (λ e. e.singleton) (extensions_in_order r.extensions)) (singletons-apart r.extensions) in
    let allowed = forms-allowed r.extensions fits.extensions (all_allowed r locale) singletons in
    rw (subtags.language, variants, extensions) allowed

-- ---- the extension with a singleton, among the forms

same-found : (m n : ℕ) (es : List Extension) → fold_byte m ≡ fold_byte n → find_extension m es ≡ find_extension n es
same-found m n es alike = ap (λ k. find (λ e. fold_byte e.singleton == k) es) alike

found-again :
    (n : ℕ) (es : List Extension) (ns : List ℕ) →
    find_extension n (flat_map (extension_at es) ns) ≡ cond (list_any (λ m. fold_byte m == fold_byte n) ns) (option_map locale_extension_form (find_extension n es)) None
found-again n es [] = refl
found-again n es (m ∷ ns) = grind (arith, common_steps, found-again n es ns, same-found, form_singleton, found_is)

-- each singleton is among them: by computation
all_singletons : list_all (λ n. list_any (λ m. fold_byte m == fold_byte n) singletons) singletons ≡ true
unfolding fold_byte
all_singletons = refl

-- ---- the forms

extension-own : (e : Extension) → IsWellFormedExtension e → is_locale_extension e ≡ true → locale_extension_form (locale_extension_form e) ≡ locale_extension_form e
unfolding fold_byte
extension-own e fits allowed =
    grind (arith, common_steps, locale_form_tested (is_of 117 e) (is_of 116 e) e refl refl, unicode-twice e.subtags fits.subtags, transform_allowed e, with-twice transform_language_form e.subtags fits.subtags, start-is_form e.subtags)

module _ (es : List Extension) (fits : AllByRecursion IsWellFormedExtension es) (allowed : list_all is_locale_extension es ≡ true) where
  at-own : (n : ℕ) → list_any (λ m. fold_byte m == fold_byte n) singletons ≡ true → extension_at (extensions_in_order es) n ≡ extension_at es n
  at-own n among = rw (found-again n es singletons, among) (some_value (find_extension n es) (λ none. rw none refl) (λ e found.
      let own = extension-own e (extension_found n es fits e found) (found_has is_locale_extension _ es e allowed found) in
      rw (found, own) refl))

  each-own :
      (ns : List ℕ) → list_all (λ n. list_any (λ m. fold_byte m == fold_byte n) singletons) ns ≡ true →
      flat_map (extension_at (extensions_in_order es)) ns ≡ flat_map (extension_at es) ns
  each-own [] among = refl
  each-own (n ∷ ns) among = grind (arith, nat_tests, both, at-own n, each-own ns)

-- ---- the record

or_subtag : (s : List ℕ) → unwrap_or (subtag_of s) [] ≡ s
or_subtag s = grind (arith, nat_tests)

record-own : (r : Record) → IsWellFormed r → is_locale_record r ≡ true → locale_record (locale_record r) ≡ locale_record r
unfolding locale_record
record-own r fits locale =
    let form : Fields = identifier_form r.variants (record_fields r) in
    rw (
      or_subtag form.script,
      or_subtag form.region,
      identifier_form-twice r.variants (record_fields r),
      new_variants-twice r.variants (record_fields r),
      each-own r.extensions fits.extensions (all_allowed r locale) singletons all_singletons,
    ) refl

-- ---- the text

-- the form of a record is that of a Unicode locale identifier, and its own form
pub text-own : (r : Record) (form : List ℕ) → IsWellFormed r → is_locale_record r ≡ true → form ≡ locale_text r → IsLocale form × IsLocaleForm form (Some form)
unfolding locale_text
text-own r form fits locale text =
    let new : Record = locale_record r in
    let (q, spells, alike, ends) = alike_parts (spell new) form (sym (ap fold_text text ∙ recommended_alike (spell new))) new (locale_well_formed r fits locale, refl) in
    let locale_q = sym (locale-alike new q alike) ∙ locale_settled r fits locale in
    let same : form ≡ locale_text q = text ∙ ap (λ x. recommended_text (spell x)) (sym (record-own r fits locale)) ∙ text-alike new q alike in
    ((q, spells, locale_q), form_is form form q spells (own_locale_read q locale_q) (same ∙ ap locale_text (sym (own_read q locale_q))))
