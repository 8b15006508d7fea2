-- The form of a Unicode locale identifier is a tag.
use Rattle.langtag_keyword.proofs.Common.{common_steps, flat_map-append, ◌≡◌, ◌<◌, List, ℕ, Bool, [], ◌∷◌, ◌++◌, ◌&&◌, true, false, cond, length, get_or, map, Option, None, Some, option_map, refl, sym, ap, ◌∙◌, arith, append-nil, ◌≤◌, inl, inr, false≢true, AllByRecursion, flat_map, list_all, option_map_or, extension_found, SpellsExtension, SpellsExtensions, extension_spelling, find_extension, fold_byte, length-join, is_primary, Extension, IsWellFormedExtension, extension_flat, IsWellFormed, Record, one_flat, spell, is_of, is_transform, unicode_form, is_language_or_none, nat_tests, IsSubtag, of_primary, of_variant, each-append, both, found_has}
use Rattle.langtag_scan.proofs.Prelude.{list_all_at}
use Rattle.langtag_scan.specs.Grammar.{is_singleton, is_extension_subtag, IsNormal, IsTag}
use Rattle.langtag_extension.proofs.ExtensionLookUp.{first_byte-spelling}
use Rattle.langtag_text.specs.FieldClasses.{is_region_field, is_script_field}
use Rattle.langtag_text.specs.Fields.{Fields, subtag_of}
use Rattle.langtag.specs.Definitions.{of_singleton, singletons}
use Rattle.langtag_locale.specs.Locale.{is_locale_extension, is_locale_record}
use Rattle.langtag_locale.specs.LocaleForm.{extension_at, locale_extension_form, locale_transform_form, identifier_form, locale_record, locale_text}
use Rattle.langtag_locale.specs.LocaleForm.{new_variants, record_fields, transform_language_form}
use Rattle.langtag_text.proofs.RecommendedLaws.{recommended_alike}
use Rattle.langtag_cldr.specs.Matching.{language_replaced}
use Rattle.langtag_scan.proofs.Laws.{alike_tag, region_two_three, script_four, variant_long, of_region, of_script}
use Rattle.langtag_text.proofs.Letters.{primary_length}
use Rattle.langtag_keyword.specs.Identifier.{identifier_flat}
use Rattle.langtag_keyword.proofs.ExtensionsPut.{AreLeft, left-opens}
use Rattle.langtag_keyword.proofs.FormTwice.{alphabet-variants}
use Rattle.langtag_keyword.proofs.FormRecords.{Good, good-keywords, good-transform, good-unicode_form, some-transform, some-unicode_form}
use Rattle.langtag_locale.proofs.IdentifierForms.{form_subtags, record_subtags, forms_good}
use Rattle.langtag_keyword.proofs.IdentifierParts.{AreSubtags, language_primary, fields_good, AreVariants, different_variants}
use Rattle.langtag_scan.specs.Class as class

-- whether all extensions are allowed depends on those that are left alone
abbrev pub AreAsked : List Extension → List (List ℕ) → Type 0
AreAsked all texts = AreLeft (λ left. list_all is_locale_extension left ≡ list_all is_locale_extension all) texts

-- the first of them is allowed, or is not
pub asked-first :
    (all : List Extension) (texts rest : List (List ℕ)) (x : List ℕ) (b : Bool) → texts ≡ x ∷ rest → AreAsked all texts → ((e : Extension) → SpellsExtension e x → b ≡ is_locale_extension e) →
    AreLeft (λ left. (b && list_all is_locale_extension left) ≡ list_all is_locale_extension all) rest
asked-first all texts rest x b first so_far is =
    let o = left-opens (λ left. list_all is_locale_extension left ≡ list_all is_locale_extension all) texts so_far rest x first in
    let es = o.others.left in
    record { left = es; spelled = o.others.spelled; members = o.others.members; holds = ap (λ t. t && list_all is_locale_extension es) (is o.first o.spells) ∙ o.others.holds }

-- ---- the extension with a singleton

-- the extension of a text that is found
pub record FoundExtension (singleton : ℕ) (es : List Extension) (text : List ℕ) : Type 0 where
  pub one : Extension
  pub found : find_extension singleton es ≡ Some one
  pub spells : SpellsExtension one text

pub found_one :
    (singleton : ℕ) (es : List Extension) → AllByRecursion IsWellFormedExtension es → (text : List ℕ) → Some text ≡ option_map extension_spelling (find_extension singleton es) →
    FoundExtension singleton es text
found_one singleton es members text same = by_found (find_extension singleton es) refl same
  where
    by_found : (o : Option Extension) → find_extension singleton es ≡ o → Some text ≡ option_map extension_spelling o → FoundExtension singleton es text
    by_found None is same = absurd cc
    by_found (Some e) is same = record { one = e; found = is; spells = record { member = extension_found singleton es members e is; joined = cc } }

pub none_found : (o : Option Extension) → None ≡ option_map extension_spelling o → o ≡ None
none_found o same = grind (arith, nat_tests)

-- the empty text spells no extensions
pub none_spelled : (es : List Extension) (text : List ℕ) → SpellsExtensions es text → text ≡ [] → es ≡ []
none_spelled [] text spells none = refl
none_spelled (e ∷ es) text spells none = absurd (omega (arith, length-join (e.singleton ∷ []) (e.subtags ++ flat_map extension_flat es), ap length (spells.joined ∙ none)))

-- a singleton with which no text begins
pub not_noted : (singleton : ℕ) (es : List Extension) → of_singleton (fold_byte singleton) (map extension_spelling es) ≡ [] → find_extension singleton es ≡ None
not_noted singleton [] none = refl
not_noted singleton (e ∷ es) none = grind (arith, common_steps, not_noted singleton es, first_byte-spelling)

-- ---- the forms

-- the form, by what is tested
abbrev pub locale_form_by : Bool → Bool → Extension → Extension
locale_form_by u t e =
    cond u (record { singleton = 117; subtags = unicode_form e.subtags }) (cond t (record { singleton = 116; subtags = locale_transform_form e.subtags }) e)

pub locale_form_tested : (a b : Bool) (e : Extension) → is_of 117 e ≡ a → is_of 116 e ≡ b → locale_extension_form e ≡ locale_form_by a b e
locale_form_tested a b e one two = ap (λ x. locale_form_by x (is_of 116 e) e) one ∙ ap (λ x. locale_form_by a x e) two

-- a `t` that is allowed is well-formed
pub transform_allowed : (e : Extension) → is_of 117 e ≡ false → is_of 116 e ≡ true → is_locale_extension e ≡ true → is_transform e.subtags ≡ true
transform_allowed e one two allowed = grind (arith, nat_tests)

-- the form of the extension with a singleton, as subtags
pub at_found : (es : List Extension) (singleton : ℕ) (e : Extension) → find_extension singleton es ≡ Some e → flat_map extension_flat (extension_at es singleton) ≡ extension_flat (locale_extension_form e)
at_found es singleton e found = grind (arith, nat_tests, append-nil (extension_flat (locale_extension_form e)))

pub at_nothing : (es : List Extension) (singleton : ℕ) → find_extension singleton es ≡ None → flat_map extension_flat (extension_at es singleton) ≡ []
at_nothing es singleton none = ap (λ o. flat_map extension_flat (option_map_or (λ e. locale_extension_form e ∷ []) o [])) none

-- the forms of all extensions, as subtags
pub flat_of_each :
    (es : List Extension) (bytes : List ℕ) → flat_map extension_flat (flat_map (extension_at es) bytes) ≡ flat_map (λ singleton. flat_map extension_flat (extension_at es singleton)) bytes
flat_of_each es [] = refl
flat_of_each es (b ∷ bytes) = flat_map-append extension_flat (extension_at es b) (flat_map (extension_at es) bytes) ∙ ap (λ t. flat_map extension_flat (extension_at es b) ++ t) (flat_of_each es bytes)

-- each of the bytes is a singleton
pub each_singleton : (k : ℕ) → k < length singletons → is_singleton (get_or singletons k 0) ≡ true
unfolding class.is_singleton class.is_letter class.is_digit class.is_mark
each_singleton k inside = grind (arith, nat_tests, list_all_at is_singleton singletons k 0 inside, false≢true)

-- ---- the variants

pub new_variants_good : (variants : List (List ℕ)) (f : Fields) → AreVariants variants → AreVariants (new_variants variants f)
new_variants_good variants f are = alphabet-variants _ (forms_good (language_replaced f).language variants variants are)

-- ---- the subtags of a language identifier may be in an extension

long_good : (s : List ℕ) → IsSubtag s → 2 ≤ length s → is_extension_subtag s ≡ true
unfolding is_extension_subtag
long_good s is long = let short = is.short in let all = is.alphanumeric in grind (arith, nat_tests)

primary_good : (s : List ℕ) → is_primary s ≡ true → is_extension_subtag s ≡ true
primary_good s is = long_good s (of_primary s is) (primary_length s is)

script_good : (s : List ℕ) → is_script_field s ≡ true → Good (one_flat (subtag_of s))
script_good [] is = tt
script_good (b ∷ s) is = let four = (script_four (b ∷ s) is).0 in (long_good (b ∷ s) (of_script (b ∷ s) is) (omega (arith, four)), tt)

region_good : (s : List ℕ) → is_region_field s ≡ true → Good (one_flat (subtag_of s))
region_good [] is = tt
region_good (b ∷ s) is = grind (arith, nat_tests, long_good (b ∷ s) (of_region (b ∷ s) is), of_region (b ∷ s) is, region_two_three (b ∷ s) is)

variants_good : (vs : List (List ℕ)) → AreVariants vs → Good vs
variants_good [] are = tt
variants_good (v ∷ vs) are = grind (arith, nat_tests, long_good v (of_variant v are.0), of_variant v are.0, variants_good vs are.1, variant_long v are.0)

identifier_good : (f : Fields) (vs : List (List ℕ)) → AreSubtags f → AreVariants vs → Good (identifier_flat f vs)
identifier_good f vs subtags variants = grind (arith, nat_tests, primary_good, language_primary, each-append, script_good, region_good, variants_good)

-- ---- the language of `t`

transform_language_good : (ss : List (List ℕ)) → is_language_or_none ss ≡ true → Good (transform_language_form ss)
transform_language_good ss is = grind (arith, nat_tests, both, identifier_good, form_subtags, fields_good, new_variants_good, different_variants)

transform_good : (ss : List (List ℕ)) → Good ss → is_transform ss ≡ true → Good (locale_transform_form ss)
transform_good ss good is = grind (arith, common_steps, each-append, transform_language_good, both, good-keywords, good-transform)

-- ---- extensions

extension_good : (e : Extension) → IsWellFormedExtension e → is_locale_extension e ≡ true → IsWellFormedExtension (locale_extension_form e)
unfolding class.is_singleton class.is_letter class.is_digit class.is_mark
extension_good e fits allowed = grind (arith, common_steps, locale_form_tested, locale_form_by, some-unicode_form, good-unicode_form, some-transform, transform_good, transform_allowed)

at_good : (es : List Extension) → AllByRecursion IsWellFormedExtension es → list_all is_locale_extension es ≡ true → (n : ℕ) → AllByRecursion IsWellFormedExtension (extension_at es n)
at_good es fits allowed n = grind (arith, common_steps, extension_good, extension_found, found_has)

extensions_good :
    (es : List Extension) → AllByRecursion IsWellFormedExtension es → list_all is_locale_extension es ≡ true → (ns : List ℕ) → AllByRecursion IsWellFormedExtension (flat_map (extension_at es) ns)
extensions_good es fits allowed [] = tt
extensions_good es fits allowed (n ∷ ns) = each-append _ (extension_at es n) (flat_map (extension_at es) ns) (at_good es fits allowed n) (extensions_good es fits allowed ns)

-- ---- the tag

-- ---- which texts are Unicode locale identifiers

pub all_allowed : (r : Record) → is_locale_record r ≡ true → list_all is_locale_extension r.extensions ≡ true
all_allowed r locale = grind (arith, nat_tests, both)

pub locale_well_formed : (r : Record) → IsWellFormed r → is_locale_record r ≡ true → IsWellFormed (locale_record r)
unfolding locale_record
locale_well_formed r fits locale =
    let form : Fields = identifier_form r.variants (record_fields r) in
    let subtags = form_subtags r.variants (record_fields r) (record_subtags r fits locale) in
    record {
      primary = language_primary form subtags;
      extended = tt;
      few = omega arith;
      short = inr refl;
      script = grind (arith, subtags.script);
      region = grind (arith, subtags.region);
      variants = new_variants_good r.variants (record_fields r) fits.variants;
      extensions = extensions_good r.extensions fits.extensions (all_allowed r locale) singletons;
      private_use = fits.private_use;
    }

pub locale_tag : (r : Record) → IsWellFormed r → is_locale_record r ≡ true → IsTag (locale_text r)
unfolding IsTag IsNormal locale_text
locale_tag r fits locale =
    alike_tag (spell (locale_record r)) (locale_text r) (sym (recommended_alike (spell (locale_record r)))) (inl (locale_record r, (locale_well_formed r fits locale, refl)))
