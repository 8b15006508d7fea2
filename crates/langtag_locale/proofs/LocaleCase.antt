-- The case of a tag changes nothing in its form as a Unicode locale identifier.
use Rattle.langtag_keyword.proofs.Common.{keywords_form, common_steps, arith, ◌≡◌, ℕ, Bool, cond, List, [], ◌∷◌, ◌++◌, ◌&&◌, ◌||◌, map, fold, Option, find, option_map, unwrap_or, refl, sym, ap, subst, ◌∙◌, map-append, length-map, list_any, flat_map, list_all, is_some, option_map_or, codes, bytes_eq, Alike, are_alike, fold_text, fold_byte, one_flat, Extension, Record, spell, segments, Alias, TypeAlias, alias_for, type_alias_for, nat_tests, find_extension, fold_text-twice, AlikeRecords, transform_value, before_key, is_field_key}
use Rattle.langtag_cldr.proofs.AlikeFields.{added-alike, by_options, by_same, known-alike, language-alike, likely_for-alike, or_other-alike}
use Rattle.langtag_text.proofs.Alike.{AlikeFields, are_alike-left, are_alike-right}
use Rattle.langtag_cldr.specs.Definitions.{or_else, or_other}
use Rattle.langtag_text.specs.Fields.{Fields, subtag_of}
use Rattle.langtag.specs.Definitions.{singletons}
use Rattle.langtag_scan.specs.Grammar.{PrivateUse, fold_extension, fold_private_use, fold_record}
use Rattle.langtag_locale.specs.LocaleForm.{forms, has_variant, heir, identifier_form, is_pair_of, language_after, new_variants, sign_for, variant_form}
use Rattle.langtag_locale.specs.LocaleForm.{extension_at, extensions_in_order, locale_extension_form, locale_transform_form, transform_language_form}
use Rattle.langtag_locale.specs.LocaleForm.{locale_record, locale_text}
use Rattle.langtag_keyword.proofs.AlphabetLaws.{in_alphabet-alike}
use Rattle.langtag_keyword.proofs.Aliases.{alias_for-alike, type_alias_for-alike}
use Rattle.langtag_scan.proofs.CaseLaw.{fold_byte-twice, spelled_alike, fold_extension-twice}
use Rattle.langtag_locale.specs.Locale.{is_locale_extension, is_unicode_subtag, is_locale_record}
use Rattle.langtag_keyword.specs.Identifier.{identifier_flat, identifier_variants}
use Rattle.langtag_keyword.proofs.CanonicalKeywords.{key-fold, unicode_key-fold}
use Rattle.langtag_locale.proofs.LocaleRecords.{locale_form_by, locale_form_tested}
use Rattle.langtag_keyword.proofs.WalkLaws.{field_key-fold}
use Rattle.langtag_keyword.proofs.ExtensionCase.{before-fold, fields-fold, is_of-fold, is_transform-fold, keywords-fold, lower-twice, transform_value-fold, unicode-fold, variants-fold}
use Rattle.langtag_fields.proofs.RepeatCase.{bytes-fold, repeat-map, singletons-fold}
use Rattle.langtag_text.proofs.RecommendedLaws.{alike_recommended}
use Rattle.langtag_keyword.proofs.FormTwice.{unicode_language-fold}
use Rattle.langtag_locale.specs.LocaleAliases as list
use Rattle.langtag_locale.specs.LocaleForm as form

-- lists of texts that are alike, one by one
abbrev pub AreAlike : List (List ℕ) → List (List ℕ) → Type 0
AreAlike ss ts = map fold_text ss ≡ map fold_text ts

-- ---- lookups

pub has_variant-alike : (variants : List (List ℕ)) (a b : List ℕ) → Alike a b → has_variant variants a ≡ has_variant variants b
has_variant-alike variants a b alike = ap (λ t. list_any (λ v. bytes_eq t (fold_text v)) variants) alike

has-fold : (variants : List (List ℕ)) (x : List ℕ) → has_variant variants x ≡ list_any (bytes_eq (fold_text x)) (map fold_text variants)
has-fold [] x = refl
has-fold (v ∷ variants) x = ap (λ b. are_alike x v || b) (has-fold variants x)

has-same : (v w : List (List ℕ)) → AreAlike v w → has_variant v ≡ has_variant w
has-same v w alike = λ i x. (has-fold v x ∙ ap (list_any (bytes_eq (fold_text x))) alike ∙ sym (has-fold w x)) i

-- ---- the steps

after-alike : (variants : List (List ℕ)) (l m : List ℕ) (a : TypeAlias) → Alike l m → Alike (language_after variants l a) (language_after variants m a)
after-alike variants l m a alike = grind (arith, common_steps, by_same, are_alike-right)

fold-alike : (variants : List (List ℕ)) (aliases : List TypeAlias) (l m : List ℕ) → Alike l m → Alike (fold (language_after variants) l aliases) (fold (language_after variants) m aliases)
fold-alike variants [] l m alike = alike
fold-alike variants (a ∷ aliases) l m alike = fold-alike variants aliases (language_after variants l a) (language_after variants m a) (after-alike variants l m a alike)

variant_language-alike : (variants : List (List ℕ)) (f g : Fields) → AlikeFields f g → AlikeFields (form.variant_language variants f) (form.variant_language variants g)
unfolding form.variant_language
variant_language-alike variants f g h = record { language = fold-alike variants list.variant_languages f.language g.language h.language; script = h.script; region = h.region }

sign-alike : (f g : Fields) → AlikeFields f g → AlikeFields (form.sign_language f) (form.sign_language g)
unfolding form.sign_language
sign-alike f g h = grind (arith, common_steps, by_same, are_alike-left, alias_for-alike)

variant_region-alike : (variants : List (List ℕ)) (f g : Fields) → AlikeFields f g → AlikeFields (form.variant_region variants f) (form.variant_region variants g)
unfolding form.variant_region
variant_region-alike variants f g h = grind (arith, common_steps, or_other-alike)

likely_region-alike : (f g : Fields) → AlikeFields f g → Alike (form.likely_region f) (form.likely_region g)
unfolding form.likely_region
likely_region-alike f g h =
    by_options (λ o p. Alike (option_map_or (λ most. most.region) o []) (option_map_or (λ most. most.region) p [])) refl (λ a b same. same.region) _ _
    (added-alike (form.language_and_script f) (form.language_and_script g)
    (record { language = known-alike (codes "und") f.language g.language h.language; script = h.script; region = refl }))

-- the heir among the regions that were found
abbrev pub heirs : Fields → Option (List ℕ) → Option (List ℕ)
heirs f o = option_map (λ regions. heir (form.likely_region f) (segments regions)) o

-- the region of the row that was found, or else the heir, or else the region
abbrev pub region_by : Fields → Option Fields → Option (List ℕ) → List ℕ
region_by f o p = unwrap_or (or_else (option_map (λ to. to.region) o) (heirs f p)) f.region

new_region-alike : (f g : Fields) → AlikeFields f g → Alike (form.new_region f) (form.new_region g)
unfolding form.new_region
new_region-alike f g h = grind (arith, common_steps, by_same, likely_for-alike, likely_region-alike, alias_for-alike, has_variant-alike)

region-alike : (f g : Fields) → AlikeFields f g → AlikeFields (form.with_new_region f) (form.with_new_region g)
unfolding form.with_new_region
region-alike f g h = record { language = h.language; script = h.script; region = new_region-alike f g h }

or_same : (a b : List ℕ) → Alike a b → (o p : Option (List ℕ)) → o ≡ p → Alike (unwrap_or o a) (unwrap_or p b)
or_same a b alike = grind (arith, common_steps, by_same)

script-alike : (f g : Fields) → AlikeFields f g → AlikeFields (form.with_new_script f) (form.with_new_script g)
unfolding form.with_new_script
script-alike f g h = grind (arith, common_steps, or_same, alias_for-alike)

-- ---- the form

-- the case of the variants does not matter
language-same : (v w : List (List ℕ)) (f : Fields) → AreAlike v w → form.variant_language v f ≡ form.variant_language w f
unfolding form.variant_language
language-same v w f alike =
    ap (λ has. form.other_language f (fold (λ l (a : TypeAlias). cond (are_alike a.key l && has a.old) a.new l) f.language list.variant_languages)) (has-same v w alike)

region-same : (v w : List (List ℕ)) (f : Fields) → AreAlike v w → form.variant_region v f ≡ form.variant_region w f
unfolding form.variant_region
region-same v w f alike =
    ap (λ has. form.other_region f (or_other f.region (option_map_or (λ (a : Alias). a.new) (find (λ (a : Alias). has a.old) list.variant_regions) []))) (has-same v w alike)

identifier-same : (v w : List (List ℕ)) (f : Fields) → AreAlike v w → identifier_form v f ≡ identifier_form w f
unfolding identifier_form
identifier-same v w f alike = grind (arith, common_steps, language-same, region-same)

-- identifiers that are equal but for case have forms that are
pub identifier_form-alike : (v w : List (List ℕ)) (f g : Fields) → AreAlike v w → AlikeFields f g → AlikeFields (identifier_form v f) (identifier_form w g)
unfolding identifier_form
identifier_form-alike v w f g alike h =
    subst (λ x. AlikeFields x (identifier_form w g)) (sym (identifier-same v w f alike))
    (script-alike _ _ (sign-alike _ _ (region-alike _ _ (variant_region-alike w _ _ (sign-alike _ _ (variant_language-alike w _ _ (language-alike f g h)))))))

-- ---- variants

-- whether a variant is left out
abbrev pub is_gone : List ℕ → List ℕ → Bool
is_gone language v = is_some (type_alias_for list.variant_languages language v) || has_variant list.dropped_variants v

-- the variant that replaces a variant, by a pair if one was found
abbrev pub replaced_by : Option TypeAlias → List ℕ → Option (List ℕ)
replaced_by pair v = or_else (option_map (λ (a : TypeAlias). a.new) pair) (alias_for list.variant_aliases v)

abbrev pub replacement : List (List ℕ) → List ℕ → Option (List ℕ)
replacement variants v = replaced_by (find (is_pair_of variants v) list.variant_pairs) v

module _ (language other : List ℕ) (variants others : List (List ℕ)) (languages : Alike language other) (alike : AreAlike variants others) where
  variant_form-alike : (v w : List ℕ) → Alike v w → Alike (variant_form language variants v) (variant_form other others w)
  unfolding variant_form
  variant_form-alike v w same =
      grind (arith, common_steps, gone, or_same v w same _ _ same_new)
    where
      gone : is_gone language v ≡ is_gone other w
      gone =
          rw (type_alias_for-alike list.variant_languages language other v w languages same, has_variant-alike list.dropped_variants v w same) refl

      same_new : replacement variants v ≡ replacement others w
      same_new =
          ap (λ has. replaced_by (find (λ (a : TypeAlias). are_alike a.key v && has a.old) list.variant_pairs) v) (has-same variants others alike)
          ∙ ap (λ t. replaced_by (find (λ (a : TypeAlias). bytes_eq (fold_text a.key) t && has_variant others a.old) list.variant_pairs) v) same
          ∙ ap (or_else (option_map (λ (a : TypeAlias). a.new) (find (is_pair_of others w) list.variant_pairs))) (alias_for-alike list.variant_aliases v w same)

  one-alike : (a b : List ℕ) → Alike a b → AreAlike (one_flat (subtag_of a)) (one_flat (subtag_of b))
  one-alike a b same = grind (arith, nat_tests)

  forms-alike : (vs ws : List (List ℕ)) → AreAlike vs ws → AreAlike (forms language variants vs) (forms other others ws)
  forms-alike [] [] same = refl
  forms-alike [] (w ∷ ws) same = absurd cc
  forms-alike (v ∷ vs) [] same = absurd cc
  forms-alike (v ∷ vs) (w ∷ ws) same =
      grind (arith, nat_tests, map-append, one-alike (variant_form language variants v) (variant_form other others w), variant_form-alike v w, forms-alike vs ws)

-- identifiers that are equal but for case have the same variants in their forms
pub new_variants-alike : (v w : List (List ℕ)) (f g : Fields) → AreAlike v w → AlikeFields f g → new_variants v f ≡ new_variants w g
new_variants-alike v w f g alike h = grind (arith, common_steps, in_alphabet-alike, forms-alike, language-alike)

-- ---- the case of extensions

pub alike-left : (s t : List ℕ) → are_alike (fold_text s) t ≡ are_alike s t
alike-left s t = ap (λ x. bytes_eq x (fold_text t)) (fold_text-twice s)

pub alike-right : (s t : List ℕ) → are_alike s (fold_text t) ≡ are_alike s t
alike-right s t = ap (bytes_eq (fold_text s)) (fold_text-twice t)

subtag-fold : (s : List ℕ) → map fold_text (one_flat (subtag_of s)) ≡ one_flat (subtag_of (fold_text s))
subtag-fold s = grind (arith, nat_tests)

lower-flat :
    (f : Fields) (vs : List (List ℕ)) →
    map fold_text (identifier_flat f vs)
    ≡ fold_text f.language ∷ (one_flat (subtag_of (fold_text f.script)) ++ (one_flat (subtag_of (fold_text f.region)) ++ map fold_text vs))
lower-flat f vs = simp (map-append, subtag-fold)

flat-alike : (f g : Fields) (vs ws : List (List ℕ)) → AlikeFields f g → vs ≡ ws → AreAlike (identifier_flat f vs) (identifier_flat g ws)
flat-alike f g vs ws h same = rw (lower-flat f vs, lower-flat g ws, h.language, h.script, h.region, same) refl

language-fold : (ss : List (List ℕ)) → AreAlike (transform_language_form (map fold_text ss)) (transform_language_form ss)
language-fold [] = refl
language-fold (s ∷ ss) =
    grind (arith, nat_tests, variants-fold ss, lower-twice (identifier_variants ss), flat-alike, identifier_form-alike, fields-fold s ss, new_variants-alike)

transform-fold : (ss : List (List ℕ)) → AreAlike (locale_transform_form (map fold_text ss)) (locale_transform_form ss)
transform-fold ss =
    rw (map-append fold_text (transform_language_form (before_key is_field_key (map fold_text ss))) (keywords_form is_field_key transform_value (map fold_text ss)), map-append fold_text (transform_language_form (before_key is_field_key ss)) (keywords_form is_field_key transform_value ss), before-fold is_field_key field_key-fold ss, language-fold (before_key is_field_key ss), keywords-fold is_field_key field_key-fold transform_value transform_value-fold ss) refl

unicode_subtags-fold : (ss : List (List ℕ)) → list_all is_unicode_subtag (map fold_text ss) ≡ list_all is_unicode_subtag ss
unicode_subtags-fold [] = refl
unicode_subtags-fold (s ∷ ss) = rw (key-fold s, unicode_key-fold s, unicode_subtags-fold ss) refl

allowed-fold : (e : Extension) → is_locale_extension (fold_extension e) ≡ is_locale_extension e
allowed-fold e = rw (is_of-fold 117 e, is_of-fold 116 e, unicode_subtags-fold e.subtags, is_transform-fold e.subtags) refl

pub all_allowed-fold : (es : List Extension) → list_all is_locale_extension (map fold_extension es) ≡ list_all is_locale_extension es
all_allowed-fold [] = refl
all_allowed-fold (e ∷ es) = rw (allowed-fold e, all_allowed-fold es) refl

extension-alike : (e : Extension) → fold_extension (locale_extension_form (fold_extension e)) ≡ fold_extension (locale_extension_form e)
extension-alike e = grind (arith, common_steps, locale_form_tested, is_of-fold, locale_form_by, unicode-fold, transform-fold, fold_extension-twice)

find-fold : (n : ℕ) (es : List Extension) → find_extension n (map fold_extension es) ≡ option_map fold_extension (find_extension n es)
find-fold n [] = refl
find-fold n (e ∷ es) = grind (arith, nat_tests, fold_byte-twice e.singleton, find-fold n es)

all-fold : (es : List Extension) (ns : List ℕ) → map fold_extension (flat_map (extension_at (map fold_extension es)) ns) ≡ map fold_extension (flat_map (extension_at es) ns)
all-fold es [] = refl
all-fold es (n ∷ ns) = grind (arith, common_steps, map-append, all-fold es ns, find-fold, extension-alike)

-- the forms of extensions in lowercase are those of the extensions, but for case
pub extensions-alike : (es : List Extension) → map fold_extension (extensions_in_order (map fold_extension es)) ≡ map fold_extension (extensions_in_order es)
extensions-alike es = all-fold es singletons

-- ---- which records are Unicode locale identifiers

locale-fold : (r : Record) → is_locale_record (fold_record r) ≡ is_locale_record r
locale-fold r = grind (arith, common_steps, unicode_language-fold, length-map, repeat-map, alike-left, alike-right, singletons-fold, bytes-fold, all_allowed-fold)

pub locale-alike : (r q : Record) → AlikeRecords r q → is_locale_record r ≡ is_locale_record q
locale-alike r q alike = sym (locale-fold r) ∙ ap is_locale_record alike ∙ locale-fold q

-- ---- the form

subtag-alike : (s t : List ℕ) → Alike s t → option_map fold_text (subtag_of s) ≡ option_map fold_text (subtag_of t)
subtag-alike s t alike = grind (arith, nat_tests)

private_use-twice : (o : Option PrivateUse) → option_map fold_private_use (option_map fold_private_use o) ≡ option_map fold_private_use o
private_use-twice o = grind (arith, nat_tests, fold_byte-twice, lower-twice)

-- the record in lowercase has a form that is equal but for case
form-fold : (r : Record) → AlikeRecords (locale_record (fold_record r)) (locale_record r)
unfolding locale_record
form-fold r =
    grind (arith, common_steps, lower-twice, fold_text-twice, identifier_form-alike, subtag-alike, new_variants-alike, extensions-alike, private_use-twice)

pub form-alike : (r q : Record) → AlikeRecords r q → AlikeRecords (locale_record r) (locale_record q)
form-alike r q alike = sym (form-fold r) ∙ ap (λ x. fold_record (locale_record x)) alike ∙ form-fold q

-- alike records have the same form
pub text-alike : (r q : Record) → AlikeRecords r q → locale_text r ≡ locale_text q
unfolding locale_text
text-alike r q alike = alike_recommended (spell (locale_record r)) (spell (locale_record q)) (spelled_alike (locale_record r) (locale_record q) (form-alike r q alike))
