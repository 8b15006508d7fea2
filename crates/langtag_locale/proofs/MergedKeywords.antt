-- The subtags of `u` with the keywords of a range: which stay, what is read of them, and that merging them again changes nothing.
use Rattle.langtag_keyword.proofs.Common.{common_steps, ◌≡◌, ℕ, Bool, true, false, ◌&&◌, ◌||◌, List, [], ◌∷◌, ◌++◌, Some, option_map_or, option_map, map, join, subtags, codes, found_some, refl, sym, ap, ◌∙◌, arith, nat_tests, append-nil, AllByRecursion, filter, list_any, is_some, fold_text, are_alike, are_alike-decides, before_key, is_key, keyword_form, unicode_value, value_of}
use Rattle.langtag_keyword.specs.Form.{has_subdivision, keys_in_order}
use Rattle.langtag_keyword.proofs.AlphabetLaws.{AreLower, among, lower-in_alphabet}
use Rattle.langtag_keyword.proofs.CanonicalKeywords.{values-are}
use Rattle.langtag_keyword.proofs.FormRecords.{Good}
use Rattle.langtag_keyword.proofs.KeywordLaws.{AreNoKeys, alike-itself, before-plain, value-plain}
use Rattle.langtag_keyword.proofs.KeywordsInForm.{each-has, keys-have}
use Rattle.langtag_text.proofs.Alike.{alike_is, are_alike-left}
use Rattle.langtag_locale.specs.Resolved.{Wish, from_greater, is_greater_key, is_replaced, removes_subdivisions, resolved_subtags, remaining_subtags, with_keywords}
use Rattle.langtag_locale.proofs.ResolvedRecords.{each_early, each_late}

-- ---- alike keys

alike-turned : (a b : List ℕ) → are_alike a b ≡ true → are_alike b a ≡ true
alike-turned a b alike = (are_alike-decides b a).1 (sym ((are_alike-decides a b).0 alike))

any-alike : (a b : List ℕ) (ss : List (List ℕ)) → are_alike a b ≡ true → list_any (are_alike a) ss ≡ list_any (are_alike b) ss
any-alike a b [] alike = refl
any-alike a b (s ∷ ss) alike = grind (arith, nat_tests, are_alike-left a b s (alike_is a b alike), any-alike a b ss alike)

replaced-alike : (w : Wish) (a b : List ℕ) → are_alike a b ≡ true → is_replaced w a ≡ is_replaced w b
replaced-alike w a b alike =
    grind (arith, nat_tests, any-alike a b w.unicode alike, are_alike-left a b (codes "rg") (alike_is a b alike), are_alike-left a b (codes "sd") (alike_is a b alike))

-- ---- the subtags that stay

-- subtags that begin with a key, or none
abbrev pub Opens : List (List ℕ) → Type 0
Opens ss = before_key is_key ss ≡ []

module _ (w : Wish) where
  remaining-gone : (ss : List (List ℕ)) → Opens (remaining_subtags w true ss)
  remaining-gone [] = refl
  remaining-gone (s ∷ ss) = grind (arith, nat_tests, remaining-gone ss)

  -- the attributes stay
  pub remaining-attributes : (ss : List (List ℕ)) → before_key is_key (remaining_subtags w false ss) ≡ before_key is_key ss
  remaining-attributes [] = refl
  remaining-attributes (s ∷ ss) = grind (arith, nat_tests, remaining-attributes ss, remaining-gone ss)

  -- no subtag is a key that is replaced
  abbrev pub Stays : List (List ℕ) → Type 0
  Stays ss = AllByRecursion (λ s. (is_key s && is_replaced w s) ≡ false) ss

  pub remaining-stays : (gone : Bool) (ss : List (List ℕ)) → Stays (remaining_subtags w gone ss)
  remaining-stays gone [] = tt
  remaining-stays true (s ∷ ss) = grind (arith, common_steps, remaining-stays true ss, remaining-stays false ss)
  remaining-stays false (s ∷ ss) = grind (arith, common_steps, remaining-stays true ss, remaining-stays false ss)

  pub remaining-front : (xs ys : List (List ℕ)) → Stays xs → remaining_subtags w false (xs ++ ys) ≡ xs ++ remaining_subtags w false ys
  remaining-front [] ys stays = refl
  remaining-front (x ∷ xs) ys stays = grind (arith, nat_tests, remaining-front xs ys stays.1, stays.0)

  pub remaining-value : (xs ys : List (List ℕ)) → AreNoKeys xs → remaining_subtags w true (xs ++ ys) ≡ remaining_subtags w true ys
  remaining-value [] ys none = refl
  remaining-value (x ∷ xs) ys none = grind (arith, nat_tests, remaining-value xs ys none.1, none.0)

  pub remaining-opens : (ss : List (List ℕ)) → Opens ss → remaining_subtags w true ss ≡ remaining_subtags w false ss
  remaining-opens [] opens = refl
  remaining-opens (s ∷ ss) opens = grind (arith, nat_tests)

-- ---- before and from a greater key

module _ (key : List ℕ) where
  pub parted : (ss : List (List ℕ)) → before_key (is_greater_key key) ss ++ from_greater key ss ≡ ss
  parted [] = refl
  parted (s ∷ ss) = grind (arith, nat_tests, parted ss)

  pub from-opens : (ss : List (List ℕ)) → Opens (from_greater key ss)
  from-opens [] = refl
  from-opens (s ∷ ss) = grind (arith, nat_tests, from-opens ss)

  -- the attributes stand before the first greater key
  pub early-attributes : (ss rest : List (List ℕ)) → Opens rest → before_key is_key (before_key (is_greater_key key) ss ++ rest) ≡ before_key is_key ss
  early-attributes [] rest opens = opens
  early-attributes (s ∷ ss) rest opens = grind (arith, nat_tests, early-attributes ss rest opens)

-- ---- the keywords that are put

-- a key that is replaced, with its value
pub record IsPut (w : Wish) (keyword : List ℕ → List (List ℕ)) (key : List ℕ) : Type 0 where
  pub value : List (List ℕ)
  pub is : keyword key ≡ key ∷ value
  pub two : is_key key ≡ true
  pub plain : AreNoKeys value
  pub replaced : is_replaced w key ≡ true
  pub lower : fold_text key ≡ key

module _ (w : Wish) (keyword : List ℕ → List (List ℕ)) where
  abbrev pub ArePut : List (List ℕ) → Type 0
  ArePut keys = AllByRecursion (IsPut w keyword) keys

  -- a keyword, and what follows
  put-opens : (key : List ℕ) (rest : List (List ℕ)) → IsPut w keyword key → Opens (keyword key ++ rest)
  put-opens key rest put = rw put.is (grind (arith, nat_tests, put.two))

  pub with-attributes : (keys others : List (List ℕ)) → ArePut keys → before_key is_key (with_keywords keyword keys others) ≡ before_key is_key others
  with-attributes [] others put = refl
  with-attributes (key ∷ keys) others put = early-attributes key others _ (put-opens key (with_keywords keyword keys (from_greater key others)) put.0)

  pub with-opens : (keys others : List (List ℕ)) → ArePut keys → Opens others → Opens (with_keywords keyword keys others)
  with-opens keys others put opens = with-attributes keys others put ∙ opens

  remaining-put : (key : List ℕ) (rest : List (List ℕ)) → IsPut w keyword key → Opens rest → remaining_subtags w false (keyword key ++ rest) ≡ remaining_subtags w false rest
  remaining-put key rest put opens = rw put.is (grind (arith, nat_tests, put.two, put.replaced, remaining-value w put.value rest put.plain, remaining-opens w rest opens))

  -- without the keywords that were put, the others are left
  pub remaining-with : (keys others : List (List ℕ)) → ArePut keys → Stays w others → remaining_subtags w false (with_keywords keyword keys others) ≡ others
  remaining-with [] others put stays = ap (remaining_subtags w false) (sym (append-nil others)) ∙ remaining-front w others [] stays ∙ append-nil others
  remaining-with (key ∷ keys) others put stays =
      remaining-front w (before_key (is_greater_key key) others) _ (each_early (λ s. (is_key s && is_replaced w s) ≡ false) key others stays)
      ∙ ap (λ t. before_key (is_greater_key key) others ++ t)
      (remaining-put key (with_keywords keyword keys (from_greater key others)) put.0 (with-opens keys (from_greater key others) put.1 (from-opens key others))
      ∙ remaining-with keys (from_greater key others) put.1 (each_late (λ s. (is_key s && is_replaced w s) ≡ false) key others stays))
      ∙ parted key others

  -- ---- what is read of them

  value-absent : (key : List ℕ) (xs ys : List (List ℕ)) → is_replaced w key ≡ true → Stays w xs → value_of is_key key (xs ++ ys) ≡ value_of is_key key ys
  value-absent key [] ys replaced stays = refl
  value-absent key (x ∷ xs) ys replaced stays = grind (arith, nat_tests, value-absent key xs ys replaced stays.1, stays.0, replaced-alike w x key)

  value-here : (key : List ℕ) (rest : List (List ℕ)) → (put : IsPut w keyword key) → Opens rest → value_of is_key key (keyword key ++ rest) ≡ Some put.value
  value-here key rest put opens = rw put.is (grind (arith, nat_tests, put.two, alike-itself key, before-plain is_key put.value rest put.plain, opens, append-nil))

  value-later : (key other : List ℕ) (rest : List (List ℕ)) → IsPut w keyword key → are_alike key other ≡ false → value_of is_key other (keyword key ++ rest) ≡ value_of is_key other rest
  value-later key other rest put apart = rw put.is (grind (arith, nat_tests, put.two, apart, value-plain is_key other put.value rest put.plain))

  -- each key has the value that was put
  pub value-with :
      (other : List ℕ) (keys others : List (List ℕ)) → fold_text other ≡ other → is_replaced w other ≡ true → among other keys ≡ true → ArePut keys → Stays w others →
      (v : List (List ℕ)) → keyword other ≡ other ∷ v → value_of is_key other (with_keywords keyword keys others) ≡ Some v
  value-with other [] others low replaced is put stays v has = absurd cc
  value-with other (key ∷ keys) others low replaced is put stays v has =
      value-absent other (before_key (is_greater_key key) others) _ replaced (each_early (λ s. (is_key s && is_replaced w s) ≡ false) key others stays)
      ∙ by_test (λ there. value-with other keys (from_greater key others) low replaced there put.1 (each_late (λ s. (is_key s && is_replaced w s) ≡ false) key others stays) v has) (are_alike key other) refl is
    where
      rest : List (List ℕ)
      rest = with_keywords keyword keys (from_greater key others)

      by_test : (among other keys ≡ true → value_of is_key other rest ≡ Some v) → (b : Bool) → are_alike key other ≡ b → (b || among other keys) ≡ true → value_of is_key other (keyword key ++ rest) ≡ Some v
      by_test later true alike is =
          let same : key ≡ other = sym put.0.lower ∙ alike_is key other alike ∙ low in
          let here = value-here key rest put.0 (with-opens keys (from_greater key others) put.1 (from-opens key others)) in
          grind (arith, same, here, put.0.is, has)
      by_test later false apart is = value-later key other rest put.0 apart ∙ later is

-- ---- the keywords of a wish

module _ (w : Wish) (good : Good w.unicode) where
  abbrev pub keyword : List ℕ → List (List ℕ)
  keyword = keyword_form is_key unicode_value w.unicode

  found-replaced : (key : List ℕ) (ss v : List (List ℕ)) → value_of is_key key ss ≡ Some v → list_any (are_alike key) ss ≡ true
  found-replaced key [] v is = absurd cc
  found-replaced key (s ∷ ss) v is = grind (arith, nat_tests, found-replaced key ss v, alike-turned s key)

  pub found_put : (key : List ℕ) (v : List (List ℕ)) → fold_text key ≡ key → value_of is_key key w.unicode ≡ Some v → IsPut w keyword key
  found_put key v low found =
      let value = values-are w.unicode good key (map fold_text (subtags (unicode_value key (join v)))) (ap (option_map (λ v. map fold_text (subtags (unicode_value key (join v))))) found) in
      record {
        value = map fold_text (subtags (unicode_value key (join v)));
        is = ap (λ o. option_map_or (λ value. key ∷ map fold_text (subtags (unicode_value key (join value)))) o []) found;
        two = value.0;
        plain = value.1;
        replaced = ap (λ b. b || (removes_subdivisions w && has_subdivision key)) (found-replaced key w.unicode v found);
        lower = low;
      }

  pub are_put : ArePut w keyword (keys_in_order is_key w.unicode)
  are_put = each-put (keys_in_order is_key w.unicode) (each-has is_key w.unicode) (lower-in_alphabet (filter is_key w.unicode))
    where
      each-put : (keys : List (List ℕ)) → AllByRecursion (λ k. is_some (value_of is_key k w.unicode) ≡ true) keys → AreLower keys → ArePut w keyword keys
      each-put [] have lower = tt
      each-put (key ∷ keys) have lower = (found_some (IsPut w keyword key) (value_of is_key key w.unicode) (λ v is. found_put key v lower.0 is) have.0, each-put keys have.1 lower.1)

  -- the attributes stay
  pub resolved-attributes : (ss : List (List ℕ)) → before_key is_key (resolved_subtags w ss) ≡ before_key is_key ss
  resolved-attributes ss = with-attributes w keyword (keys_in_order is_key w.unicode) (remaining_subtags w false ss) are_put ∙ remaining-attributes w ss

  -- merged again, they are the same
  pub resolved-twice : (ss : List (List ℕ)) → resolved_subtags w (resolved_subtags w ss) ≡ resolved_subtags w ss
  resolved-twice ss = ap (with_keywords keyword (keys_in_order is_key w.unicode)) (remaining-with w keyword (keys_in_order is_key w.unicode) (remaining_subtags w false ss) are_put (remaining-stays w false ss))

  -- each keyword of the range is read
  pub resolved-value :
      (key : List ℕ) (v ss : List (List ℕ)) → fold_text key ≡ key → value_of is_key key w.unicode ≡ Some v →
      value_of is_key key (resolved_subtags w ss) ≡ Some (map fold_text (subtags (unicode_value key (join v))))
  unfolding found_put
  resolved-value key v ss low found =
      let put = found_put key v low found in
      value-with w keyword key (keys_in_order is_key w.unicode) (remaining_subtags w false ss) low put.replaced (keys-have is_key key w.unicode ∙ ap is_some found) are_put (remaining-stays w false ss)
      (map fold_text (subtags (unicode_value key (join v)))) put.is
