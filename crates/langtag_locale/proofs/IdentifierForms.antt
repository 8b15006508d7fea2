-- The form of a language identifier has a language, and maybe a script and a region.
use Rattle.langtag_keyword.proofs.Common.{each-weaker, ◌≡◌, ℕ, Bool, true, List, [], ◌∷◌, ◌++◌, ◌&&◌, length, fold, Some, None, refl, sym, ap, ◌∙◌, append_assoc, arith, common_steps, length-map, flat_map, list_all, AllByRecursion, with_joined, of_primary, IsSubtag, of_variant, are_alike, is_region, is_script, is_variant, IsWellFormed, Record, extension_flat, one_flat, private_part_flat, spell, segments, Alias, TypeAlias, alias_for, is_unicode_language, both, found_has, nat_tests, each-append}
use Rattle.langtag_scan.specs.Grammar.{fold_byte, Spells, IsNormal}
use Rattle.langtag_text.proofs.RecommendedLaws.{recommended_alike}
use Rattle.langtag_text.specs.RecommendedCase.{recommended_text}
use Rattle.langtag_text.proofs.FieldClasses.{from_region, from_script}
use Rattle.langtag_cldr.specs.Definitions.{language_aliases, region_replacements, Likely, are_alike_fields, language_alone, likely_for, looked_up, or_other, language_rows, likely_subtags, other_rows, language_replaced, region_alone}
use Rattle.langtag_text.specs.FieldClasses.{is_region_field, is_script_field}
use Rattle.langtag_text.specs.Fields.{Fields, subtag_of}
use Rattle.langtag_text.specs.Output.{with_subtag}
use Rattle.langtag_scan.proofs.NormalTexts.{spelled_once}
use Rattle.langtag_locale.specs.Locale.{is_locale_record}
use Rattle.langtag_locale.specs.LocaleForm.{IsLocaleForm, extensions_in_order, identifier_form, language_after, locale_record, locale_text, new_variants}
use Rattle.langtag_likely.specs.Marked.{as_read}
use Rattle.langtag_locale.specs.LocaleForm.{record_fields, sign_for, forms, variant_form, read_form}
use Rattle.langtag_keyword.specs.Identifier.{identifier_flat}
use Rattle.langtag_locale.proofs.LocaleTables.{all_good, found_good, heir_good}
use Rattle.langtag_keyword.proofs.IdentifierParts.{AreSubtags, language_primary, AreVariants}
use Rattle.langtag_scan.specs.Class as class
use Rattle.langtag_locale.specs.LocaleAliases as list
use Rattle.langtag_locale.specs.LocaleForm as form

abbrev are_subtags : Fields → Bool
are_subtags f = is_unicode_language f.language && (is_script_field f.script && is_region_field f.region)

-- ---- by computation

record AreClasses : Type 0 where
  replaced : list_all (λ row. are_subtags row.to) language_aliases ≡ true
  variants : list_all {X = TypeAlias} (λ alias. is_unicode_language alias.new) list.variant_languages ≡ true
  signs : list_all {X = Alias} (λ alias. is_unicode_language alias.new) list.sign_languages ≡ true
  regions : list_all (λ row. is_region_field row.to.region) region_replacements ≡ true
  likely : list_all (λ row. is_region_field row.to.region) likely_subtags ≡ true
  pairs : list_all {X = TypeAlias} (λ alias. is_variant alias.new) list.variant_pairs ≡ true
  aliases : list_all {X = Alias} (λ alias. is_variant alias.new) list.variant_aliases ≡ true

classes : AreClasses
unfolding language_aliases list.variant_languages list.sign_languages region_replacements likely_subtags language_rows other_rows list.variant_pairs list.variant_aliases class.is_primary class.is_script class.is_region class.is_variant class.is_letter class.is_digit fold_byte
classes = record { replaced = refl; variants = refl; signs = refl; regions = refl; likely = refl; pairs = refl; aliases = refl }

-- ---- what is found has what all have

-- the row that is found
pub row_found :
    (good : Likely → Bool) (rows : List Likely) (key to : Fields) → list_all good rows ≡ true → likely_for rows key ≡ Some to →
    (row : Likely) × (good row ≡ true) × (are_alike_fields row.from key ≡ true) × (row.to ≡ to)
row_found good [] key to all found = absurd cc
row_found good (row ∷ rows) key to all found = grind (arith, common_steps, both (good row) (list_all good rows) all, row_found good rows key to)

pub row_good : (good : Fields → Bool) (rows : List Likely) (key to : Fields) → list_all (λ row. good row.to) rows ≡ true → likely_for rows key ≡ Some to → good to ≡ true
row_good good rows key to all found = let (row, is, alike, same) = row_found (λ row. good row.to) rows key to all found in ap good (sym same) ∙ is

either_good : (good : List ℕ → Bool) (text other : List ℕ) → good text ≡ true → good other ≡ true → good (or_other text other) ≡ true
either_good good text other one two = grind (arith, nat_tests)

-- ---- the steps

replaced_subtags : (f : Fields) → AreSubtags f → AreSubtags (language_replaced f)
unfolding language_replaced
replaced_subtags f are = grind (arith, common_steps, row_good are_subtags language_aliases (language_alone f), classes.replaced, both, either_good)

-- what holds of a language and of all new languages holds of the language after the aliases that fit
pub fold_good :
    (good : List ℕ → Bool) (variants : List (List ℕ)) (aliases : List TypeAlias) (language : List ℕ) → list_all {X = TypeAlias} (λ alias. good alias.new) aliases ≡ true → good language ≡ true →
    good (fold (language_after variants) language aliases) ≡ true
fold_good good variants [] language all is = is
fold_good good variants (a ∷ aliases) language all is = grind (arith, common_steps, both, fold_good good variants aliases (language_after variants language a))

variant_subtags : (variants : List (List ℕ)) (f : Fields) → AreSubtags f → AreSubtags (form.variant_language variants f)
unfolding form.variant_language
variant_subtags variants f are = record {
  language = fold_good is_unicode_language variants list.variant_languages f.language classes.variants are.language;
  script = are.script;
  region = are.region;
}

-- what holds of all sign languages holds of the one that is found
pub sign_found :
    (good : List ℕ → Bool) (f : Fields) (new : List ℕ) → list_all {X = Alias} (λ alias. good alias.new) list.sign_languages ≡ true → sign_for f ≡ Some new → good new ≡ true
sign_found good f new all = grind (arith, common_steps, found_good)

-- what holds with each sign language, and without one, holds after that step
pub sign_cases :
    (P : Fields → Type 0) (f : Fields) → (sign_for f ≡ None → P f) → ((new : List ℕ) → sign_for f ≡ Some new → P (form.without_sgn f new)) → P (form.sign_language f)
unfolding form.sign_language
sign_cases P f none some = grind (arith, common_steps)

sign_subtags : (f : Fields) → AreSubtags f → AreSubtags (form.sign_language f)
sign_subtags f are =
    sign_cases AreSubtags f (λ none. are)
    (λ new found. record { language = sign_found is_unicode_language f new classes.signs found; script = are.script; region = refl })

other_region-subtags : (f : Fields) (region : List ℕ) → AreSubtags f → is_region_field region ≡ true → AreSubtags (form.other_region f region)
other_region-subtags f region are good = record { language = are.language; script = are.script; region = good }

variant_region-subtags : (variants : List (List ℕ)) (f : Fields) → AreSubtags f → AreSubtags (form.variant_region variants f)
unfolding form.variant_region
variant_region-subtags variants f are =
    other_region-subtags f _ are (either_good is_region_field f.region (form.variants_region variants list.variant_regions) are.region (grind (arith, common_steps, found_has, all_good.regions)))

looked_up_good : (f to : Fields) → looked_up likely_subtags f ≡ Some to → is_region_field to.region ≡ true
looked_up_good f to is = grind (arith, nat_tests, row_good (λ to. is_region_field to.region) likely_subtags, classes.likely)

likely_region_good : (f : Fields) → is_region_field (form.likely_region f) ≡ true
unfolding form.likely_region
likely_region_good f = grind (arith, common_steps, looked_up_good (form.language_and_script f))

new_region_good : (f : Fields) → AreSubtags f → is_region_field (form.new_region f) ≡ true
unfolding form.new_region
new_region_good f are =
    let heir_fits : (regions : List ℕ) → alias_for list.region_heirs f.region ≡ Some regions → is_region_field (form.heir (form.likely_region f) (segments regions)) ≡ true =
    λ regions found.
    heir_good is_region_field (form.likely_region f) (segments regions) (λ has. likely_region_good f) refl
    (found_good (λ text. list_all is_region_field (segments text)) (λ (alias : Alias). are_alike alias.old f.region) list.region_heirs regions all_good.heirs found) in
    grind (arith, common_steps, are.region, heir_fits, row_good (λ to. is_region_field to.region) region_replacements (region_alone f), classes.regions)

region_subtags : (f : Fields) → AreSubtags f → AreSubtags (form.with_new_region f)
unfolding form.with_new_region
region_subtags f are = other_region-subtags f _ are (new_region_good f are)

script_subtags : (f : Fields) → AreSubtags f → AreSubtags (form.with_new_script f)
unfolding form.with_new_script
script_subtags f are = record { language = are.language; script = grind (arith, common_steps, are.script, found_good is_script_field, all_good.scripts); region = are.region }

pub form_subtags : (variants : List (List ℕ)) (f : Fields) → AreSubtags f → AreSubtags (identifier_form variants f)
unfolding identifier_form
form_subtags variants f are =
    script_subtags _ (sign_subtags _ (region_subtags _ (variant_region-subtags variants _ (sign_subtags _ (variant_subtags variants _ (replaced_subtags f are))))))

-- ---- the record

flat-parts : (p : List ℕ) (a b c d e : List (List ℕ)) → (p ∷ (a ++ (b ++ c))) ++ (d ++ e) ≡ p ∷ (a ++ (b ++ (c ++ (d ++ e))))
flat-parts p a b c d e = simp append_assoc

pub locale_language : (r : Record) → is_locale_record r ≡ true → is_unicode_language r.primary ≡ true
locale_language r locale = grind (arith, common_steps, both)

pub record_subtags : (r : Record) → IsWellFormed r → is_locale_record r ≡ true → AreSubtags (record_fields r)
record_subtags r fits locale = grind (arith, common_steps, locale_language, from_script, from_region)

-- the form, put subtag by subtag
pub locale_joined :
    (r : Record) → IsWellFormed r → is_locale_record r ≡ true →
    fold with_subtag []
    (identifier_flat (identifier_form r.variants (record_fields r)) (new_variants r.variants (record_fields r))
    ++ (flat_map extension_flat (extensions_in_order r.extensions) ++ private_part_flat r.private_use))
    ≡ spell (locale_record r)
unfolding locale_record with_subtag
locale_joined r fits locale =
    let f : Fields = identifier_form r.variants (record_fields r) in
    ap (fold with_subtag [])
    (flat-parts f.language (one_flat (subtag_of f.script)) (one_flat (subtag_of f.region)) (new_variants r.variants (record_fields r)) (flat_map extension_flat (extensions_in_order r.extensions)) (private_part_flat r.private_use))
    ∙ sym (with_joined [] f.language _ (of_primary f.language (language_primary f (form_subtags r.variants (record_fields r) (record_subtags r fits locale)))).some)

-- ---- the text

pub same_length : (r : Record) → length (locale_text r) ≡ length (spell (locale_record r))
unfolding locale_text
same_length r = sym (length-map (recommended_text (spell (locale_record r))) fold_byte) ∙ ap length (recommended_alike (spell (locale_record r))) ∙ length-map (spell (locale_record r)) fold_byte

-- the form of a tag whose record is known
pub form_is : (old new : List ℕ) (r : Record) → Spells r old → is_locale_record (as_read r) ≡ true → new ≡ locale_text (as_read r) → IsLocaleForm old (Some new)
unfolding IsNormal
form_is old new r spells locale is =
    let here : Some new ≡ read_form r = rw (locale, is) refl in
    record { part = λ q also. here ∙ ap read_form (spelled_once r q spells.0 also.0 (spells.1 ∙ sym also.1)); absent = λ other. absurd (other (r, spells)) }

-- ---- the forms of variants are variants

pub variant_good : (language : List ℕ) (variants : List (List ℕ)) (v : List ℕ) → is_variant v ≡ true → AreVariants (one_flat (subtag_of (variant_form language variants v)))
unfolding variant_form
variant_good language variants v is = grind (arith, nat_tests, found_good is_variant, classes.aliases, found_has, classes.pairs)

pub forms_good : (language : List ℕ) (variants vs : List (List ℕ)) → AreVariants vs → AreVariants (forms language variants vs)
forms_good language variants [] are = tt
forms_good language variants (v ∷ vs) are =
    each-append _ (one_flat (subtag_of (variant_form language variants v))) (forms language variants vs) (variant_good language variants v are.0) (forms_good language variants vs are.1)

variants_fit : (ss : List (List ℕ)) → AreVariants ss → AllByRecursion IsSubtag ss
variants_fit = each-weaker (λ v. is_variant v ≡ true) IsSubtag of_variant

pub variant_fits : (language : List ℕ) (variants : List (List ℕ)) (v : List ℕ) → is_variant v ≡ true → AllByRecursion IsSubtag (one_flat (subtag_of (variant_form language variants v)))
variant_fits language variants v is = variants_fit _ (variant_good language variants v is)

pub forms_fit : (language : List ℕ) (variants vs : List (List ℕ)) → AreVariants vs → AllByRecursion IsSubtag (forms language variants vs)
forms_fit language variants vs are = variants_fit _ (forms_good language variants vs are)
