-- A variant keeps its form if its number is not one of those in the table.
use Rattle.std.proofs.lemmas.Bool.Decides.{nat_tests}
use Rattle.langtag_keyword.proofs.Common.{arith, ◌≡◌, ℕ, Bool, true, false, ◌==◌, List, [], ◌∷◌, map, refl, sym, ap, ◌∙◌, false_from_ne_true, false≢true, list_all, list_any, IsSubtag, are_alike, are_alike-decides, one_flat, Alias, TypeAlias, order_number, both}
use Rattle.langtag_text.specs.Fields.{subtag_of}
use Rattle.langtag_scan.specs.Case.{fold_byte}
use Rattle.langtag_keyword.specs.Least.{left_number}
use Rattle.langtag_locale.specs.LocaleAliases as list
use Rattle.langtag_locale.specs.LocaleForm.{variant_form}
use Rattle.langtag_locale.specs.declared.locale_tables.TheConstants.{CHANGING_VARIANTS}
use Rattle.langtag_locale.proofs.IdentifierTwice.{none_found, not_both}

-- whether the number of a text is in the table
is_listed : List ℕ → Bool
is_listed v = list_any (λ n. n == order_number v) CHANGING_VARIANTS

record AreListed : Type 0 where
  languages : list_all {X = TypeAlias} (λ alias. is_listed alias.old) list.variant_languages ≡ true
  dropped : list_all is_listed list.dropped_variants ≡ true
  pairs : list_all {X = TypeAlias} (λ alias. is_listed alias.key) list.variant_pairs ≡ true
  aliases : list_all {X = Alias} (λ alias. is_listed alias.old) list.variant_aliases ≡ true

all_listed : AreListed
unfolding is_listed list.variant_languages list.dropped_variants list.variant_pairs list.variant_aliases fold_byte
all_listed = record { languages = refl; dropped = refl; pairs = refl; aliases = refl }

-- alike texts have one number
listed-alike : (a b : List ℕ) → are_alike a b ≡ true → is_listed a ≡ is_listed b
unfolding is_listed
listed-alike a b alike = ap (λ t. list_any (λ n. n == left_number 8 t) CHANGING_VARIANTS) ((are_alike-decides a b).0 alike)

module _ (v : List ℕ) (absent : is_listed v ≡ false) where
  apart : (old : List ℕ) → is_listed old ≡ true → are_alike old v ≡ false
  apart old listed = false_from_ne_true (are_alike old v) (λ alike. false≢true (sym absent ∙ sym (listed-alike old v alike) ∙ listed))

  apart_from : (old : List ℕ) → is_listed old ≡ true → are_alike v old ≡ false
  apart_from old listed = false_from_ne_true (are_alike v old) (λ alike. false≢true (sym absent ∙ listed-alike v old alike ∙ listed))

  not_dropped : (olds : List (List ℕ)) → list_all is_listed olds ≡ true → list_any (are_alike v) olds ≡ false
  not_dropped [] all = refl
  not_dropped (old ∷ olds) all = grind (arith, nat_tests, both (is_listed old) (list_all is_listed olds) all, apart_from old, not_dropped olds)

  kept_form : (language : List ℕ) (variants : List (List ℕ)) → variant_form language variants v ≡ v
  unfolding variant_form
  kept_form language variants =
      grind (arith, nat_tests, none_found, all_listed.languages, not_both, false≢true, apart, not_dropped, all_listed.dropped, all_listed.pairs, all_listed.aliases)

-- a variant whose number is not in the table
pub kept : (v : List ℕ) (n : ℕ) → order_number v ≡ n → list_any (λ m. m == n) CHANGING_VARIANTS ≡ false → (language : List ℕ) (variants : List (List ℕ)) → variant_form language variants v ≡ v
unfolding is_listed
kept v n is absent = kept_form v (ap (λ k. list_any (λ m. m == k) CHANGING_VARIANTS) is ∙ absent)

-- a variant that keeps its form is offered as it is
pub kept_number : (v form : List ℕ) (n : ℕ) → IsSubtag v → n ≡ order_number v → form ≡ v → n ∷ [] ≡ map order_number (one_flat (subtag_of form))
kept_number v form n is number kept = grind (arith, nat_tests)
