-- The tables of language identifiers have what the lists say, and what replaces a field has its class: by computation.
use Rattle.langtag_keyword.proofs.Common.{common_steps, arith, ◌≡◌, ℕ, Bool, true, List, [], ◌∷◌, fold, map, option_map, Some, refl, ◌+◌, ◌*◌, ◌==◌, not, ◌&&◌, ◌++◌, codes, list_all, are_alike, fold_text, segments, Alias, TypeAlias, alias_for, type_alias_for, both, found_has, nat_tests, is_none, is_some, are_alike-decides, find, ◌||◌}
use Rattle.langtag_scan.proofs.Prelude.{and-false, eq-eqb}
use Rattle.langtag_scan.specs.Grammar.{fold_byte, is_digit, is_letter, is_primary, is_region, is_script}
use Rattle.langtag_text.specs.FieldClasses.{is_language_field, is_region_field, is_script_field}
use Rattle.langtag_text.specs.Fields.{Fields}
use Rattle.langtag_locale.specs.LocaleForm.{has_variant, heir, language_after}
use Rattle.langtag_cldr.specs.Definitions.{language_aliases, region_replacements, Likely, are_alike_fields, language_alone, likely_for, region_alone}
use Rattle.langtag_locale.specs.LocaleAliases as list
use Rattle.langtag_locale.specs.declared.locale_tables.TheConstants as table

pub record AreRows : Type 0 where
  pub languages : map (λ row. record { key = row.0.now; old = row.1.now; new = row.2.now }) table.VARIANT_LANGUAGES ≡ list.variant_languages
  pub pairs : map (λ row. record { key = row.0.now; old = row.1.now; new = row.2.now }) table.VARIANT_PAIRS ≡ list.variant_pairs
  pub aliases : map (λ row. record { old = row.0.now; new = row.1.now }) table.VARIANT_ALIASES ≡ list.variant_aliases
  pub dropped : map (λ row. row.now) table.DROPPED_VARIANTS ≡ list.dropped_variants
  pub signs : map (λ row. record { old = row.0.now; new = row.1.now }) table.SIGN_LANGUAGES ≡ list.sign_languages
  pub regions : map (λ row. record { old = row.0.now; new = row.1.now }) table.VARIANT_REGIONS ≡ list.variant_regions
  pub heirs : map (λ row. record { old = row.0.now; new = row.1.now }) table.REGION_HEIRS ≡ list.region_heirs
  pub scripts : map (λ row. record { old = row.0.now; new = row.1.now }) table.SCRIPT_ALIASES ≡ list.script_aliases

pub all_rows : AreRows
unfolding list.variant_languages list.variant_pairs list.variant_aliases list.dropped_variants list.sign_languages list.variant_regions list.region_heirs list.script_aliases
all_rows = record { languages = refl; pairs = refl; aliases = refl; dropped = refl; signs = refl; regions = refl; heirs = refl; scripts = refl }

-- ---- classes

pub record AreGood : Type 0 where
  pub languages : list_all (λ alias. is_language_field alias.new) list.variant_languages ≡ true
  pub signs : list_all (λ alias. is_language_field alias.new) list.sign_languages ≡ true
  pub regions : list_all (λ alias. is_region_field alias.new) list.variant_regions ≡ true
  pub heirs : list_all (λ alias. list_all is_region_field (segments alias.new)) list.region_heirs ≡ true
  pub scripts : list_all (λ alias. is_script_field alias.new) list.script_aliases ≡ true

pub all_good : AreGood
unfolding list.variant_languages list.sign_languages list.variant_regions list.region_heirs list.script_aliases is_primary is_region is_script is_letter is_digit fold_byte
all_good = record { languages = refl; signs = refl; regions = refl; heirs = refl; scripts = refl }

-- no language changes if there are no variants
pub no_variants : (language : List ℕ) (aliases : List TypeAlias) → fold (language_after []) language aliases ≡ language
no_variants language [] = refl
no_variants language (alias ∷ aliases) = grind (arith, common_steps, and-false, no_variants language aliases)

-- the replacement that is found has what all replacements have
pub found_good :
    (good : List ℕ → Bool) (test : Alias → Bool) (aliases : List Alias) (new : List ℕ) → list_all (λ alias. good alias.new) aliases ≡ true →
    option_map (λ alias. alias.new) (find test aliases) ≡ Some new → good new ≡ true
found_good good test aliases new all is = grind (arith, common_steps, found_has)

-- the heir is good if the likely region is good where it is among the regions
pub heir_good :
    (good : List ℕ → Bool) (likely : List ℕ) (regions : List (List ℕ)) → (has_variant regions likely ≡ true → good likely ≡ true) → good [] ≡ true → list_all good regions ≡ true →
    good (heir likely regions) ≡ true
heir_good good likely regions one none all = grind (arith, nat_tests, both)

-- ---- what replaces a row has no row: fields are compared as numbers, which takes less time

-- fields as a number, the same in any case
abbrev number : Fields → ℕ
number f = fold (λ n b. 256 * n + b) 0 (fold_text f.language ++ (fold_text f.script ++ fold_text f.region))

number-alike : (a b : Fields) → are_alike_fields a b ≡ true → number a ≡ number b
number-alike a b alike = grind (arith, nat_tests, both, are_alike-decides)

-- no row is for fields with this number
abbrev is_new : List Likely → ℕ → Bool
is_new rows m = list_all (λ n. not (n == m)) (map (λ row. number row.from) rows)

one_new : (f : Fields) (rows : List Likely) → is_new rows (number f) ≡ true → is_none (likely_for rows f) ≡ true
one_new f [] new = refl
one_new f (row ∷ rows) new = grind (arith, nat_tests, one_new f rows, number-alike row.from f, eq-eqb (number row.from) (number f))

all_new :
    (f : Likely → Fields) (olds rows : List Likely) → list_all (is_new olds) (map (λ row. number (f row)) rows) ≡ true →
    list_all (λ row. is_none (likely_for olds (f row))) rows ≡ true
all_new f olds [] new = refl
all_new f olds (row ∷ rows) new = grind (arith, nat_tests, all_new f olds rows, one_new (f row) olds)

languages_new : list_all (is_new language_aliases) (map (λ row. number (language_alone row.to)) language_aliases) ≡ true
unfolding language_aliases fold_byte
languages_new = refl

regions_new : list_all (is_new region_replacements) (map (λ row. number (region_alone row.to)) region_replacements) ≡ true
unfolding region_replacements fold_byte
regions_new = refl

-- ---- languages

-- a language that no alias replaces
abbrev pub is_last_language : List ℕ → Bool
is_last_language l = is_none (likely_for language_aliases (record { language = l; script = []; region = [] }))

pub replaced_last : list_all (λ row. is_last_language row.to.language) language_aliases ≡ true
replaced_last = all_new (λ row. language_alone row.to) language_aliases language_aliases languages_new

-- a language that no alias replaces, and that is not `sgn`
abbrev pub is_last_sign : List ℕ → Bool
is_last_sign l = is_last_language l && not (are_alike l (codes "sgn"))

-- the language of an alias with a variant has this alias, and no other language becomes it
abbrev pub is_old_language : TypeAlias → Bool
is_old_language a =
    is_some (type_alias_for list.variant_languages a.key a.old)
    && (list_all {X = TypeAlias} (λ b. not (are_alike a.key b.new) || are_alike a.key b.key) list.variant_languages
    && list_all {X = Alias} (λ b. not (are_alike a.key b.new)) list.sign_languages)

pub record AreLastLanguages : Type 0 where
  pub variants : list_all {X = TypeAlias} (λ alias. is_last_language alias.new) list.variant_languages ≡ true
  pub signs : list_all {X = Alias} (λ alias. is_last_language alias.new) list.sign_languages ≡ true
  pub no_sign : list_all {X = Alias} (λ alias. is_last_sign alias.new) list.sign_languages ≡ true
  pub old : list_all is_old_language list.variant_languages ≡ true

pub last_languages : AreLastLanguages
unfolding language_aliases list.variant_languages list.sign_languages fold_byte
last_languages = record { variants = refl; signs = refl; no_sign = refl; old = refl }

-- ---- regions and scripts

-- a region that no alias replaces
abbrev pub is_last_region : List ℕ → Bool
is_last_region r = is_none (likely_for region_replacements (record { language = []; script = []; region = r })) && is_none (alias_for list.region_heirs r)

-- a script that no alias replaces
abbrev pub is_last_script : List ℕ → Bool
is_last_script s = is_none (alias_for list.script_aliases s)

pub record AreLastPlaces : Type 0 where
  pub no_region : is_last_region [] ≡ true
  no_heirs : list_all (λ (row : Likely). is_none (alias_for list.region_heirs row.to.region)) region_replacements ≡ true
  pub heirs : list_all {X = Alias} (λ alias. list_all is_last_region (segments alias.new)) list.region_heirs ≡ true
  pub scripts : list_all {X = Alias} (λ alias. is_last_script alias.new) list.script_aliases ≡ true

pub last_places : AreLastPlaces
unfolding region_replacements list.region_heirs list.script_aliases fold_byte
last_places = record { no_region = refl; no_heirs = refl; heirs = refl; scripts = refl }

pub replacements_last : list_all (λ row. is_last_region row.to.region) region_replacements ≡ true
replacements_last = each region_replacements (all_new (λ row. region_alone row.to) region_replacements region_replacements regions_new) last_places.no_heirs
  where
    each :
        (rows : List Likely) → list_all (λ (row : Likely). is_none (likely_for region_replacements (region_alone row.to))) rows ≡ true →
        list_all (λ (row : Likely). is_none (alias_for list.region_heirs row.to.region)) rows ≡ true → list_all (λ (row : Likely). is_last_region row.to.region) rows ≡ true
    each [] new none = refl
    each (row ∷ rows) new none = grind (arith, nat_tests, each rows)

-- ---- variants

-- a variant that is neither left out nor replaced with any language
abbrev pub is_last_variant : List ℕ → Bool
is_last_variant v = not (has_variant list.dropped_variants v) && is_none (alias_for list.variant_aliases v)

-- a variant, and not the empty text, that stays whatever the language is
abbrev pub stays_always : List ℕ → Bool
stays_always v = is_last_variant v && not (are_alike v []) && list_all {X = TypeAlias} (λ a. not (are_alike a.old v)) list.variant_languages

pub record AreLastVariants : Type 0 where
  pub pairs : list_all {X = TypeAlias} (λ alias. stays_always alias.new) list.variant_pairs ≡ true
  pub aliases : list_all {X = Alias} (λ alias. stays_always alias.new) list.variant_aliases ≡ true
  -- a variant that brings a region is left out
  pub regions : list_all {X = Alias} (λ alias. not (is_last_variant alias.old)) list.variant_regions ≡ true
  -- the second variant of a pair is replaced alone, too
  pub seconds : list_all {X = TypeAlias} (λ alias. not (is_last_variant alias.old)) list.variant_pairs ≡ true

pub last_variants : AreLastVariants
unfolding list.variant_pairs list.variant_aliases list.variant_languages list.variant_regions list.dropped_variants fold_byte
last_variants = record { pairs = refl; aliases = refl; regions = refl; seconds = refl }
