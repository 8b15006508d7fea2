-- The form of a language identifier is its own form, in any case of its letters.
use Rattle.std.proofs.lemmas.Bool.Decides.{nat_tests}
use Rattle.langtag_keyword.proofs.Common.{rules, arith, ◌≡◌, ℕ, Bool, true, false, not, cond, List, [], ◌∷◌, ◌&&◌, ◌||◌, fold, Option, Some, None, find, refl, sym, ap, ◌∙◌, unwrap_or, common_steps, false_from_ne_true, false≢true, not-true, AllByRecursion, list_all, is_some, option_map_or, IsTrue, codes, each-append, each_from_test, Alike, are_alike, are_alike-decides, one_flat, segments, Alias, TypeAlias, alias_for, type_alias_for, both, found_has, fold_text-twice}
use Rattle.std.proofs.lemmas.Bool.{cond_both, or_parts}
use Rattle.langtag_cldr.proofs.AlikeFields.{likely_for-alike}
use Rattle.langtag_text.proofs.Alike.{are_alike-left, are_alike-right}
use Rattle.langtag_cldr.specs.Definitions.{language_aliases, region_replacements, language_alone, likely_for, language_replaced, region_alone}
use Rattle.langtag_text.specs.Fields.{Fields, subtag_of}
use Rattle.langtag_locale.specs.LocaleForm.{forms, has_variant, heir, language_after, sign_for, variant_form, identifier_form, new_variants}
use Rattle.langtag_locale.proofs.LocaleCase.{has_variant-alike, is_gone, region_by, replaced_by, replacement}
use Rattle.langtag_keyword.proofs.Aliases.{alias_for-alike, type_alias_for-alike}
use Rattle.langtag_locale.proofs.IdentifierForms.{row_good, sign_cases, sign_found, fold_good}
use Rattle.langtag_locale.proofs.LocaleTables.{is_last_language, is_last_region, is_last_script, is_last_sign, is_last_variant, is_old_language, replaced_last, replacements_last, stays_always, found_good, heir_good, last_languages, last_places, last_variants}
use Rattle.langtag_keyword.proofs.AlphabetLaws.{in_alphabet-twice, each-alphabet}
use Rattle.langtag_locale.specs.LocaleAliases as list
use Rattle.langtag_locale.specs.LocaleForm as form
use Rattle.langtag_cldr.proofs.CanonicalFields.{none_is}

-- ---- what is not found

pub not_some : {X : Type 0} (o : Option X) → is_some o ≡ false → o ≡ None
not_some o is = grind (arith, nat_tests)

-- nothing is found if nothing passes the test
pub none_found : {X : Type 0} (good test : X → Bool) (xs : List X) → list_all good xs ≡ true → ((x : X) → good x ≡ true → test x ≡ false) → find test xs ≡ None
none_found good test [] all never = refl
none_found good test (x ∷ xs) all never = grind (arith, nat_tests, both (good x) (list_all good xs) all, none_found good test xs)

-- two tests do not pass together
pub not_both : (a b : Bool) → (a ≡ true → b ≡ true → ⊥) → (a && b) ≡ false
not_both a b never = false_from_ne_true (a && b) (λ is. let parts = both a b is in never parts.0 parts.1)

-- what holds of texts holds of one that is alike one of them
pub among : (P : List ℕ → Type 0) → ((a b : List ℕ) → Alike b a → P a → P b) → (ws : List (List ℕ)) → AllByRecursion P ws → (x : List ℕ) → has_variant ws x ≡ true → P x
among P alike [] all x has = absurd (false≢true has)
among P alike (w ∷ ws) all x has = grind (arith, common_steps, among P alike ws all.1 x, are_alike-decides x w, alike w x, all.0)

-- ---- variants that stay

-- a variant, and not the empty text, that is neither left out nor replaced where the language is this one
pub record Stays (language v : List ℕ) : Type 0 where
  pub last : is_last_variant v ≡ true
  pub some : are_alike v [] ≡ false
  pub kept : type_alias_for list.variant_languages language v ≡ None

pub stays-alike : (language v w : List ℕ) → Alike w v → Stays language v → Stays language w
stays-alike language v w alike stays = grind (arith, common_steps, has_variant-alike, alias_for-alike, are_alike-left, type_alias_for-alike)

stays-with : (language v : List ℕ) → stays_always v ≡ true → Stays language v
stays-with language v always = grind (arith, common_steps, both, is_last_variant, not-true, none_found, not_both, false≢true)

variant_stays : (language : List ℕ) (variants : List (List ℕ)) (v : List ℕ) → AllByRecursion (Stays language) (one_flat (subtag_of (variant_form language variants v)))
unfolding variant_form
variant_stays language variants v = grind (arith, common_steps, cond_both, is_gone, replacement, or_parts, not_some, stays-with, found_good, stays_always, last_variants.aliases, replaced_by, found_has, last_variants.pairs)

pub forms-stay : (language : List ℕ) (variants vs : List (List ℕ)) → AllByRecursion (Stays language) (forms language variants vs)
forms-stay language variants [] = tt
forms-stay language variants (v ∷ vs) = grind (arith, nat_tests, each-append, variant_stays language variants v, forms-stay language variants vs)

-- ---- languages that stay

pub replaced-last : (f : Fields) → is_last_language (language_replaced f).language ≡ true
unfolding language_replaced
replaced-last f = grind (arith, common_steps, row_good (λ to. is_last_language to.language) language_aliases (language_alone f), replaced_last)

pub sign-good : (good : List ℕ → Bool) (f : Fields) → list_all {X = Alias} (λ alias. good alias.new) list.sign_languages ≡ true → good f.language ≡ true → good (form.sign_language f).language ≡ true
sign-good good f all is = sign_cases (λ x. good x.language ≡ true) f (λ none. is) (λ new found. sign_found good f new all found)

-- no sign language is replaced
pub sign-last : (f : Fields) → sign_for (form.sign_language f) ≡ None
sign-last f =
    sign_cases (λ x. sign_for x ≡ None) f (λ none. none)
    (λ new found.
    let parts = both (is_last_language new) (not (are_alike new (codes "sgn"))) (sign_found is_last_sign f new last_languages.no_sign found) in
    ap (λ b. cond b (alias_for list.sign_languages []) None) (not-true _ parts.1))

-- an old language with a variant is not new: a language that is alike it was so before
module _ (key : List ℕ) where
  pub kept-sign : (f : Fields) → list_all {X = Alias} (λ b. not (are_alike key b.new)) list.sign_languages ≡ true → are_alike key (form.sign_language f).language ≡ true → are_alike key f.language ≡ true
  kept-sign f all =
      sign_cases (λ x. are_alike key x.language ≡ true → are_alike key f.language ≡ true) f (λ none is. is)
      (λ new found is. absurd (false≢true (sym (not-true _ (sign_found (λ l. not (are_alike key l)) f new all found)) ∙ is)))

  pub kept-fold :
      (variants : List (List ℕ)) (aliases : List TypeAlias) (l : List ℕ) → list_all {X = TypeAlias} (λ b. not (are_alike key b.new) || are_alike key b.key) aliases ≡ true →
      are_alike key (fold (language_after variants) l aliases) ≡ true → are_alike key l ≡ true
  kept-fold variants [] l all is = is
  kept-fold variants (b ∷ aliases) l all is =
      let parts = both (not (are_alike key b.new) || are_alike key b.key) (list_all {X = TypeAlias} (λ b. not (are_alike key b.new) || are_alike key b.key) aliases) all in
      let before = kept-fold variants aliases (language_after variants l b) parts.1 is in
      search (rules, parts.0, before, are_alike-right)

pub fold_stays :
    (variants : List (List ℕ)) (aliases : List TypeAlias) (l : List ℕ) → list_all is_old_language aliases ≡ true →
    ((a : TypeAlias) → is_old_language a ≡ true → (are_alike a.key l && has_variant variants a.old) ≡ false) → fold (language_after variants) l aliases ≡ l
fold_stays variants [] l all never = refl
fold_stays variants (a ∷ aliases) l all never = grind (arith, common_steps, both, fold_stays variants aliases l)

-- ---- regions and scripts that stay

pub new_region-last : (f : Fields) → is_last_region (form.new_region f) ≡ true
unfolding form.new_region
new_region-last f =
    let heir_last : (regions : List ℕ) → alias_for list.region_heirs f.region ≡ Some regions → is_last_region (heir (form.likely_region f) (segments regions)) ≡ true =
    λ regions found.
    let all = found_good (λ text. list_all is_last_region (segments text)) (λ (alias : Alias). are_alike alias.old f.region) list.region_heirs regions last_places.heirs found in
    heir_good is_last_region (form.likely_region f) (segments regions)
    (among (λ r. IsTrue (is_last_region r)) (λ a b alike is. grind (arith, common_steps, likely_for-alike, alias_for-alike)) (segments regions) (each_from_test is_last_region (segments regions) all) (form.likely_region f)) last_places.no_region all in
    grind (arith, common_steps, heir_last, row_good (λ to. is_last_region to.region) region_replacements (region_alone f), replacements_last)

pub sign-region : (f : Fields) → is_last_region f.region ≡ true → is_last_region (form.sign_language f).region ≡ true
sign-region f is = sign_cases (λ x. is_last_region x.region ≡ true) f (λ none. is) (λ new found. last_places.no_region)

pub new_script-last : (f : Fields) → is_last_script (form.new_script f) ≡ true
new_script-last f = grind (arith, common_steps, found_good is_last_script (λ (alias : Alias). are_alike alias.old f.script) list.script_aliases, last_places.scripts)

-- ---- the form of the form

module _ (variants : List (List ℕ)) (f : Fields) where
  -- the language before it changes with a variant
  abbrev language : List ℕ
  language = (language_replaced f).language

  abbrev news : List (List ℕ)
  news = new_variants variants f

  abbrev final : Fields
  final = identifier_form variants f

  -- the fields before and after the steps that replace the region
  abbrev before_region : Fields
  before_region = form.sign_language (form.variant_language variants (language_replaced f))

  abbrev after_region : Fields
  after_region = form.with_new_region (form.variant_region variants before_region)

  news-stay : AllByRecursion (Stays language) news
  news-stay = grind (arith, common_steps, each-alphabet, stays-alike, fold_text-twice, forms, forms-stay)

  new-stays : (x : List ℕ) → has_variant news x ≡ true → Stays language x
  new-stays = among (Stays language) (stays-alike language) news news-stay

  -- ---- the language

  last_language : is_last_language final.language ≡ true
  unfolding identifier_form form.with_new_script form.with_new_region form.variant_region form.variant_language
  last_language =
      sign-good is_last_language after_region last_languages.signs
      (sign-good is_last_language (form.variant_language variants (language_replaced f)) last_languages.signs
      (fold_good is_last_language variants list.variant_languages language last_languages.variants (replaced-last f)))

  last_sign : sign_for final ≡ None
  unfolding identifier_form form.with_new_script
  last_sign = sign-last after_region

  came : (a : TypeAlias) → is_old_language a ≡ true → are_alike a.key final.language ≡ true → are_alike a.key language ≡ true
  unfolding identifier_form form.with_new_script form.with_new_region form.variant_region form.variant_language
  came a old is =
      let parts = both (is_some (type_alias_for list.variant_languages a.key a.old)) _ old in
      let others = both (list_all {X = TypeAlias} (λ b. not (are_alike a.key b.new) || are_alike a.key b.key) list.variant_languages) (list_all {X = Alias} (λ b. not (are_alike a.key b.new)) list.sign_languages) parts.1 in
      kept-fold a.key variants list.variant_languages language others.0
      (kept-sign a.key (form.variant_language variants (language_replaced f)) others.1 (kept-sign a.key after_region others.1 is))

  -- no alias has the language of the form and a variant that stays
  no_alias : (x : List ℕ) → Stays language x → (a : TypeAlias) → is_old_language a ≡ true → are_alike a.key final.language ≡ true → Alike a.old x → ⊥
  no_alias x stays a old same alike = grind (arith, nat_tests, both, false≢true, type_alias_for-alike, are_alike-decides a.key language, came a old same)

  none_left : (a : TypeAlias) → is_old_language a ≡ true → (are_alike a.key final.language && has_variant news a.old) ≡ false
  none_left a old =
      not_both (are_alike a.key final.language) (has_variant news a.old)
      (λ same has. no_alias a.old (new-stays a.old has) a old same refl)

  -- ---- the region and the script

  last_region : is_last_region final.region ≡ true
  unfolding identifier_form form.with_new_script form.with_new_region
  last_region = sign-region after_region (new_region-last (form.variant_region variants before_region))

  last_script : is_last_script final.script ≡ true
  unfolding identifier_form form.with_new_script
  last_script = new_script-last (form.sign_language after_region)

  -- ---- each step

  language_again : language_replaced final ≡ final
  unfolding language_replaced
  language_again = grind (arith, nat_tests, none_is (likely_for language_aliases (language_alone final)) last_language)

  variant_again : form.variant_language news final ≡ final
  unfolding form.variant_language
  variant_again = ap (form.other_language final) (fold_stays news list.variant_languages final.language last_languages.old none_left)

  sign_again : form.sign_language final ≡ final
  unfolding form.sign_language
  sign_again = ap (λ o. option_map_or (form.without_sgn final) o final) last_sign

  variant_region_again : form.variant_region news final ≡ final
  unfolding form.variant_region
  variant_region_again = grind (arith, common_steps, none_found, is_last_variant, last_variants.regions, false_from_ne_true, false≢true, not-true, new-stays)

  region_again : form.with_new_region final ≡ final
  unfolding form.with_new_region form.new_region
  region_again = grind (arith, common_steps, both, last_region, region_by, none_is)

  script_again : form.with_new_script final ≡ final
  unfolding form.with_new_script
  script_again = ap (λ o. record { language = final.language; script = unwrap_or o final.script; region = final.region }) (none_is (alias_for list.script_aliases final.script) last_script)

  -- the form of a language identifier is its own form
  pub identifier_form-twice : identifier_form news final ≡ final
  unfolding identifier_form
  identifier_form-twice = grind (arith, common_steps, language_again, variant_again, sign_again, variant_region_again, region_again, script_again)

  -- ---- the variants

  stays_again : (v : List ℕ) → Stays language v → variant_form final.language news v ≡ v
  unfolding variant_form
  stays_again v stays = search (rules, stays, both, replacement, none_found, is_old_language, last_languages.old, not_both, no_alias, not-true, replaced_by, is_last_variant, last_variants.seconds, false≢true, new-stays, none_is)

  forms-again : (vs : List (List ℕ)) → AllByRecursion (Stays language) vs → forms final.language news vs ≡ vs
  forms-again [] all = refl
  forms-again (v ∷ vs) all = grind (arith, common_steps, forms-again vs all.1, forms, stays_again, false≢true)

  -- and its variants are theirs
  pub new_variants-twice : new_variants news final ≡ news
  new_variants-twice = grind (arith, nat_tests, language_again, forms-again news news-stay, news-stay, in_alphabet-twice)
