-- The parts of a language identifier are subtags of their classes.
use Rattle.langtag_keyword.proofs.Common.{common_steps, arith, ◌≡◌, ℕ, Bool, true, false, List, [], ◌∷◌, ◌++◌, None, refl, ap, ◌==◌, not, length, list_any-append, AllByRecursion, list_any, is_none, are_alike, fold_text, in_alphabet, is_unicode_language, are_different_variants, one_of, is_primary, both, nat_tests, slice_get}
use Rattle.std.specs.Option.{option_and_then}
use Rattle.langtag_place.specs.Repeat.{repeat, repeat_index_after}
use Rattle.langtag_keyword.proofs.AlphabetLaws.{Rise, rise-in_alphabet, lower-in_alphabet, after-apart, under-each}
use Rattle.langtag_text.proofs.FieldClasses.{from_region, from_script}
use Rattle.langtag_text.specs.FieldClasses.{is_region_field, is_script_field}
use Rattle.langtag_text.specs.Fields.{Fields}
use Rattle.langtag_keyword.specs.Identifier.{first_subtag, identifier_fields}
pub use Rattle.langtag_keyword.specs.Identifier.{AreVariants}

module _ {A : Type 0} (alike : A → A → Bool) where
  -- no element is alike one before it
  abbrev pub Apart : List A → Type 0
  Apart [] = Unit {0}
  Apart (x ∷ xs) = AllByRecursion (λ y. alike y x ≡ false) xs × Apart xs

  -- elements that are alike none of those before, and not alike the next one
  apart-push :
      (x : A) (seen ys : List A) → AllByRecursion (λ y. list_any (alike y) seen ≡ false) ys → AllByRecursion (λ y. alike y x ≡ false) ys →
      AllByRecursion (λ y. list_any (alike y) (seen ++ x ∷ []) ≡ false) ys
  apart-push x seen [] new other = tt
  apart-push x seen (y ∷ ys) new other = grind (arith, nat_tests, list_any-append, new.0, other.0, apart-push x seen ys new.1 other.1)

  none_after : (seen xs : List A) → AllByRecursion (λ y. list_any (alike y) seen ≡ false) xs → Apart xs → repeat_index_after alike seen xs ≡ None
  none_after seen [] new apart = refl
  none_after seen (x ∷ xs) new apart = grind (arith, common_steps, none_after (seen ++ x ∷ []) xs (apart-push x seen xs new.1 apart.0) apart.1, apart-push)

  none_before : (xs : List A) → AllByRecursion (λ y. list_any (alike y) [] ≡ false) xs
  none_before [] = tt
  none_before (x ∷ xs) = (refl, none_before xs)

  pub none_repeated : (xs : List A) → Apart xs → is_none (repeat alike xs) ≡ true
  none_repeated xs apart = ap (λ o. is_none (option_and_then (slice_get xs) o)) (none_after [] xs (none_before xs) apart)

rise-apart : (ss : List (List ℕ)) → AllByRecursion (λ s. fold_text s ≡ s) ss → Rise ss → Apart are_alike ss
rise-apart [] lowers rise = tt
rise-apart (s ∷ ss) lowers rise = (after-apart s ss (under-each s ss lowers.0 lowers.1 rise.0 rise.1), rise-apart ss lowers.1 rise.1)

pub alphabet-apart : (ss : List (List ℕ)) → Apart are_alike (in_alphabet ss)
alphabet-apart ss = rise-apart (in_alphabet ss) (lower-in_alphabet ss) (rise-in_alphabet ss)

-- a language, and a script and a region, either of which may be absent
pub record AreSubtags (f : Fields) : Type 0 where
  pub language : is_unicode_language f.language ≡ true
  pub script : is_script_field f.script ≡ true
  pub region : is_region_field f.region ≡ true

pub language_primary : (f : Fields) → AreSubtags f → is_primary f.language ≡ true
language_primary f are = (both (is_primary f.language) (not (length f.language == 4)) are.language).0

first_good : (test good : List ℕ → Bool) → good [] ≡ true → ((s : List ℕ) → test s ≡ true → good s ≡ true) → (ss : List (List ℕ)) → good (first_subtag (one_of test ss)) ≡ true
first_good test good none some ss = grind (arith, nat_tests)

pub fields_good : (s : List ℕ) (ss : List (List ℕ)) → is_unicode_language s ≡ true → AreSubtags (identifier_fields s ss)
fields_good s ss is = grind (arith, nat_tests, first_good, from_script, from_region)

pub different_variants : (vs : List (List ℕ)) → are_different_variants vs ≡ true → AreVariants vs
different_variants [] are = tt
different_variants (v ∷ vs) are = grind (arith, nat_tests, different_variants vs)
