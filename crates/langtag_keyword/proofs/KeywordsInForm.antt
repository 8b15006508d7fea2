-- Keywords that are written in the order of their keys are read again as they are: so keywords in their form are their own
-- form, and subtags in which each key has the same value have the same form.
use Rattle.langtag_keyword.proofs.KeywordLaws.{Plain, before-plain, value-plain}
use Rattle.langtag_keyword.proofs.CanonicalValues.{AreSettled}
use Rattle.std.proofs.lemmas.Bool.Decides.{nat_tests}
use Rattle.langtag_keyword.proofs.Common.{common_steps, arith, ◌≡◌, ℕ, Bool, true, false, cond, ◌||◌, List, [], ◌∷◌, ◌++◌, map, Option, None, Some, option_map, refl, sym, ap, ◌∙◌, append-nil, AllByRecursion, filter, flat_map, is_some, option_map_or, fold_text, are_alike-decides, join, subtags, is_before, put_among, before_key, value_of, found_some}
use Rattle.langtag_keyword.specs.Form as form
use Rattle.langtag_keyword.specs.Form.{keys_in_order}
use Rattle.langtag_keyword.proofs.AlphabetLaws.{Rise, rise-in_alphabet, AreLower, lower-in_alphabet, among, among-alphabet, before-apart, each-among, not-among, same-risen}
use Rattle.langtag_keyword.proofs.KeywordBlocks.{block, blocks}

pub flat-same : (P : List ℕ → Type 0) (f g : List ℕ → List (List ℕ)) → ((k : List ℕ) → P k → f k ≡ g k) → (keys : List (List ℕ)) → AllByRecursion P keys → flat_map f keys ≡ flat_map g keys
flat-same P f g same [] all = refl
flat-same P f g same (k ∷ keys) all = rw (same k all.0, flat-same P f g same keys all.1) refl

-- a key for which nothing is put, unless it is among the keys
pub flat-put :
    (f : List ℕ → List (List ℕ)) (key : List ℕ) (keys : List (List ℕ)) → fold_text key ≡ key → AreLower keys → Rise keys → (among key keys ≡ false → f key ≡ []) →
    flat_map f (put_among key keys) ≡ flat_map f keys
flat-put f key [] low lowers rise none = ap (λ t. t ++ []) (none refl)
flat-put f key (j ∷ keys) low lowers rise none =
    by_tests (is_before key j) (is_before j key) (λ below. none (not-among key key (j ∷ keys) refl low lowers below rise))
    (λ below. flat-put f key keys low lowers.1 rise.1 (λ absent. none (ap (λ b. b || among key keys) (before-apart j key lowers.0 low below).0 ∙ absent)))
  where
    by_tests :
        (a b : Bool) → (a ≡ true → f key ≡ []) → (b ≡ true → flat_map f (put_among key keys) ≡ flat_map f keys) →
        flat_map f (cond a (key ∷ j ∷ keys) (cond b (j ∷ put_among key keys) (j ∷ keys))) ≡ flat_map f (j ∷ keys)
    by_tests a b here later = grind (arith, nat_tests)

-- `opens` says which subtags are keys
module _ (opens : List ℕ → Bool) where
  pub plain-before : (ss : List (List ℕ)) → Plain opens (before_key opens ss)
  plain-before [] = tt
  plain-before (s ∷ ss) = grind (arith, common_steps, plain-before ss)

  -- what has a value is a key, and there is no key in the value
  abbrev pub AreKeywords : (List ℕ → Option (List (List ℕ))) → Type 0
  AreKeywords value = (key : List ℕ) (v : List (List ℕ)) → value key ≡ Some v → (opens key ≡ true) × Plain opens v

  module _ (value : List ℕ → Option (List (List ℕ))) (are : AreKeywords value) where
    blocks-start : (keys : List (List ℕ)) → before_key opens (blocks value keys) ≡ []
    blocks-start [] = refl
    blocks-start (key ∷ keys) = grind (arith, common_steps, found_some (opens key ≡ true) (value key) (λ v is. (are key v is).0), blocks-start keys)

    -- after subtags that are no keys
    pub before-blocks : (front keys : List (List ℕ)) → Plain opens front → before_key opens (front ++ blocks value keys) ≡ front
    before-blocks front keys plain = before-plain opens front (blocks value keys) plain ∙ ap (λ t. front ++ t) (blocks-start keys) ∙ append-nil front

    -- the value of a key in lowercase, among keys in lowercase
    value-found :
        (k : List ℕ) (keys : List (List ℕ)) → fold_text k ≡ k → AllByRecursion (λ j. fold_text j ≡ j) keys →
        value_of opens k (blocks value keys) ≡ cond (among k keys) (value k) None
    value-found k [] lower lowers = refl
    value-found k (j ∷ keys) lower lowers = grind (arith, nat_tests, are_alike-decides j k, before-blocks, value-plain opens k, value-found k keys lower lowers.1)

  -- ---- which keys are in order

  key-has : (k : List ℕ) (ss : List (List ℕ)) → among k (filter opens ss) ≡ is_some (value_of opens k ss)
  key-has k [] = refl
  key-has k (s ∷ ss) = grind (arith, common_steps, key-has k ss, among)

  pub keys-have : (k : List ℕ) (ss : List (List ℕ)) → among k (keys_in_order opens ss) ≡ is_some (value_of opens k ss)
  keys-have k ss = among-alphabet k (filter opens ss) ∙ key-has k ss

  -- each key in order has a value
  pub each-has : (ss : List (List ℕ)) → AllByRecursion (λ k. is_some (value_of opens k ss) ≡ true) (keys_in_order opens ss)
  each-has ss = each-among (λ k. is_some (value_of opens k ss) ≡ true) (keys_in_order opens ss) (λ k there. sym (keys-have k ss) ∙ there)

  -- ---- keywords in their form

  module _ (canonical : List ℕ → List ℕ → List ℕ) where
    -- the values in canonical form
    abbrev pub values_in_form : List (List ℕ) → List ℕ → Option (List (List ℕ))
    values_in_form ss key = option_map (λ w. map fold_text (subtags (canonical key (join w)))) (value_of opens key ss)

    -- the form, key after key
    pub form-blocks : (ss : List (List ℕ)) → form.keywords_form opens canonical ss ≡ blocks (values_in_form ss) (keys_in_order opens ss)
    form-blocks ss = grind (arith, nat_tests)

    -- a key is among the keys of subtags in which it has a value
    has-value : (k : List ℕ) (ss : List (List ℕ)) → among k (keys_in_order opens ss) ≡ is_some (values_in_form ss k)
    has-value k ss = grind (arith, common_steps, keys-have k ss)

    -- the form depends on nothing but the values of keys in lowercase
    pub same-values :
        (ss ts : List (List ℕ)) → ((k : List ℕ) → fold_text k ≡ k → values_in_form ss k ≡ values_in_form ts k) → form.keywords_form opens canonical ss ≡ form.keywords_form opens canonical ts
    same-values ss ts same =
        let keys : keys_in_order opens ss ≡ keys_in_order opens ts = grind (arith, common_steps, same-risen, lower-in_alphabet, rise-in_alphabet, has-value, same) in
        form-blocks ss
        ∙ flat-same (λ k. fold_text k ≡ k) (block (values_in_form ss)) (block (values_in_form ts)) (λ k low. ap (λ o. option_map_or (λ v. k ∷ v) o []) (same k low)) (keys_in_order opens ss)
        (lower-in_alphabet (filter opens ss))
        ∙ ap (blocks (values_in_form ts)) keys ∙ sym (form-blocks ts)

    -- the form after some subtags that are no keys
    module _ (ss : List (List ℕ)) (are : AreKeywords (values_in_form ss)) (front : List (List ℕ)) (plain : Plain opens front) where
      abbrev whole : List (List ℕ)
      whole = front ++ form.keywords_form opens canonical ss

      pub front-again : before_key opens whole ≡ front
      front-again = ap (λ t. before_key opens (front ++ t)) (form-blocks ss) ∙ before-blocks (values_in_form ss) are front (keys_in_order opens ss) plain

      found-again : (k : List ℕ) → fold_text k ≡ k → value_of opens k whole ≡ values_in_form ss k
      found-again k low =
          grind (arith, common_steps, value-plain opens k front (form.keywords_form opens canonical ss) plain, form-blocks ss, value-found (values_in_form ss) are k (keys_in_order opens ss) low (lower-in_alphabet (filter opens ss)), has-value k ss)

      -- a canonical value is its own canonical value
      pub keywords-again : AreSettled canonical → form.keywords_form opens canonical whole ≡ form.keywords_form opens canonical ss
      keywords-again settled = same-values whole ss (λ k low. grind (arith, common_steps, found-again k low, settled k))
