-- What a lookup and a walk have in common.
use Rattle.langtag_keyword.proofs.Common.{rules, common_steps, ◌≡◌, ℕ, Bool, true, false, cond, ◌&&◌, ◌==◌, not, List, [], ◌∷◌, ◌++◌, Some, refl, ap, arith, list_any, nat_tests, list_any-append, fold_text, are_alike, Alike, join, length-fold, before_key, value_of, is_key, keywords_after, is_field_key, option_map}
use Rattle.std.proofs.lemmas.Map.Steps.{list_any_congr}
use Rattle.langtag_scan.proofs.CaseLaw.{is_letter-fold, is_digit-fold}
use Rattle.langtag_keyword.specs.Keywords.{Keyword, value_among, keywords_of}
use Rattle.langtag_text.proofs.Alike.{alike_is, are_alike-right}

-- ---- the case of letters

pub field_key-fold : (s : List ℕ) → is_field_key (fold_text s) ≡ is_field_key s
field_key-fold s = grind (arith, nat_tests, is_letter-fold, is_digit-fold)

-- a key is looked up in any case
pub value_of-alike : (test : List ℕ → Bool) (k l : List ℕ) (ss : List (List ℕ)) → Alike k l → value_of test k ss ≡ value_of test l ss
value_of-alike test k l [] same = refl
value_of-alike test k l (s ∷ ss) same = rw (are_alike-right s k l same, value_of-alike test k l ss same) refl

-- ---- a lookup and the walk

-- one more subtag that the key is not alike
still-none : (key s : List ℕ) (before : List (List ℕ)) → list_any (are_alike key) before ≡ false → are_alike s key ≡ false → list_any (are_alike key) (before ++ s ∷ []) ≡ false
still-none key s before none apart = search (rules, none, apart, list_any-append)

module _ (test : List ℕ → Bool) (folds : (s : List ℕ) → test (fold_text s) ≡ test s) (key : List ℕ) (is : test key ≡ true) where
  by_key :
      (before ss : List (List ℕ)) (s : List ℕ) (others : List Keyword) (opened same : Bool) → test s ≡ opened → are_alike s key ≡ same → list_any (are_alike key) before ≡ false →
      (are_alike s key ≡ false → value_among key others ≡ option_map join (value_of test key ss)) →
      value_among key (cond (opened && not (list_any (are_alike s) before)) (record { key = s; value = join (before_key test ss) } ∷ others) others)
      ≡ option_map join (cond (opened && same) (Some (before_key test ss)) (value_of test key ss))
  by_key before ss s others opened same is_opened e none later = grind (arith, common_steps, list_any_congr, alike_is, folds s, folds key)

  -- the value of a key is that of the keyword that the walk gives
  listed-after : (before ss : List (List ℕ)) → list_any (are_alike key) before ≡ false → value_among key (keywords_after test before ss) ≡ option_map join (value_of test key ss)
  listed-after before [] none = refl
  listed-after before (s ∷ ss) none = grind (arith, nat_tests, by_key before ss s, still-none, listed-after (before ++ s ∷ []) ss)

pub keyword-listed : (k : List ℕ) (ss : List (List ℕ)) → is_key k ≡ true → value_among k (keywords_of is_key ss) ≡ option_map join (value_of is_key k ss)
keyword-listed k ss is = listed-after is_key (λ s. ap (λ n. n == 2) (length-fold s)) k is [] ss refl

pub field-listed : (k : List ℕ) (ss : List (List ℕ)) → is_field_key k ≡ true → value_among k (keywords_of is_field_key ss) ≡ option_map join (value_of is_field_key k ss)
field-listed k ss is = listed-after is_field_key field_key-fold k is [] ss refl

pub ruleset keyword_laws = (value_of-alike, keyword-listed, field-listed)
