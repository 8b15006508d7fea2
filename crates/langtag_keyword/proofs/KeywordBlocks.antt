-- Keywords that are written key after key, in the order of the keys, and what becomes of them when a keyword is set or
-- removed.
use Rattle.langtag_keyword.proofs.AlphabetLaws.{KeySplit}
use Rattle.langtag_keyword.proofs.Common.{common_steps, ◌≡◌, ℕ, ◌≤◌, Bool, true, false, cond, ◌&&◌, not, List, [], ◌∷◌, ◌++◌, length, find, Option, None, Some, refl, sym, ap, ◌∙◌, arith, append-nil, append_assoc, and_parts, flat_map, AllByRecursion, is_some, option_map_or, nat_tests, find_extension, are_alike, fold_text, Extension, Record, extension_flat, changed_from, extension_of, is_this_key, keyword_error, put_keyword, with_changed_u, with_keyword, without_keyword, without_within, is_place, is_of, is_before, is_key, found_some, option_map}
use Rattle.langtag_scan.specs.Case.{fold_byte}
use Rattle.langtag_keyword.specs.Edit.{edited_record, is_place_of_u}
use Rattle.langtag_keyword.proofs.KeywordLaws.{AreNoKeys, ArePassed, fits_from, passed, standing-this, alike-itself}

-- ---- what is removed twice

module _ (key : List ℕ) where
  -- within a keyword of the key, a value goes
  pub without-value : (value rest : List (List ℕ)) → AreNoKeys value → without_within key true (value ++ rest) ≡ without_within key true rest
  without-value [] rest all = refl
  without-value (s ∷ value) rest all = grind (arith, nat_tests, without-value value rest all.1)

  without-twice : (i inside : Bool) (ss : List (List ℕ)) → (i && not inside) ≡ false → without_within key i (without_within key inside ss) ≡ without_within key inside ss
  without-twice i inside [] within = refl
  without-twice i inside (s ∷ ss) within = grind (arith, nat_tests, without-twice true true ss refl, without-twice false true ss refl, without-twice false false ss refl)

-- ---- what is set twice

module _ (key k : List ℕ) (v w : List (List ℕ)) (this : is_this_key key k ≡ true) (all : AreNoKeys v) where
  module _ (stands : Bool) where
    find-put : (ss : List (List ℕ)) → ArePassed (is_place key stands) (is_this_key key) ss → find (is_this_key key) (put_keyword key stands (k ∷ v) ss) ≡ Some k
    find-put [] passed = grind (arith, nat_tests)
    find-put (s ∷ ss) passed = grind (arith, nat_tests, find-put ss passed.1)

    put-twice : (ss : List (List ℕ)) → ArePassed (is_place key stands) (is_this_key key) ss → put_keyword key true (k ∷ w) (put_keyword key stands (k ∷ v) ss) ≡ put_keyword key stands (k ∷ w) ss
    put-twice [] passed = grind (arith, nat_tests, and_parts, append-nil, without-value key v [] all)
    put-twice (s ∷ ss) passed = grind (arith, nat_tests, and_parts, without-value, without-twice, put-twice ss passed.1)

with-twice : (key : List ℕ) (v w ss : List (List ℕ)) → is_key key ≡ true → AreNoKeys v → with_keyword key w (with_keyword key v ss) ≡ with_keyword key w ss
with-twice key v w ss is all = grind (arith, nat_tests, standing-this key ss is, passed (is_place key) (is_this_key key), find-put key, put-twice key)

-- ---- extensions

-- there are subtags with a keyword
pub some-put : (key k : List ℕ) (stands : Bool) (v ss : List (List ℕ)) → 1 ≤ length (put_keyword key stands (k ∷ v) ss)
some-put key k stands v [] = omega arith
some-put key k stands v (s ∷ ss) = grind (arith, nat_tests)

pub extension-some : (n : ℕ) (ss : List (List ℕ)) → 1 ≤ length ss → extension_of n ss ≡ record { singleton = n; subtags = ss } ∷ []
extension-some n ss some = grind (arith, nat_tests)

-- what is put for an extension that has subtags
pub extension-flat : (n : ℕ) (ss : List (List ℕ)) → 1 ≤ length ss → flat_map extension_flat (extension_of n ss) ≡ (n ∷ []) ∷ ss
extension-flat n ss some = ap (flat_map extension_flat) (extension-some n ss some) ∙ append-nil ((n ∷ []) ∷ ss)

pub u_is_u : (ss : List (List ℕ)) → is_of 117 (record { singleton = 117; subtags = ss }) ≡ true
unfolding fold_byte
u_is_u ss = refl

pub find_u : (es : List Extension) → find_extension 117 es ≡ find (is_of 117) es
unfolding fold_byte
find_u es = refl

module _ (one two : List (List ℕ) → List (List ℕ)) (some : (ss : List (List ℕ)) → 1 ≤ length (one ss)) (twice : (ss : List (List ℕ)) → two (one ss) ≡ two ss) where
  find-changed : (stands : Bool) (es : List Extension) → ArePassed (is_place_of_u stands) (is_of 117) es → is_some (find (is_of 117) (changed_from one stands es)) ≡ true
  find-changed stands [] others = grind (arith, nat_tests, extension-some 117 (one []) (some []), u_is_u (one []))
  find-changed stands (e ∷ es) others =
      grind (arith, nat_tests, find-changed stands es others.1, extension-some 117 (one []) (some []), extension-some e.singleton (one e.subtags) (some e.subtags), u_is_u (one []))

  changed-twice : (stands : Bool) (es : List Extension) → ArePassed (is_place_of_u stands) (is_of 117) es → changed_from two true (changed_from one stands es) ≡ changed_from two stands es
  changed-twice stands [] others = grind (arith, nat_tests, append-nil, extension-some 117 (one []) (some []), u_is_u (one []))
  changed-twice stands (e ∷ es) others =
      grind (arith, nat_tests, changed-twice stands es others.1, append_assoc, extension-some 117 (one []) (some []), extension-some e.singleton (one e.subtags) (some e.subtags), u_is_u (one []))

  u-twice : (es : List Extension) → with_changed_u two (with_changed_u one es) ≡ with_changed_u two es
  u-twice es = grind (arith, nat_tests, find_u es, passed is_place_of_u (is_of 117) (λ e. refl) es (find (is_of 117) es) refl, find_u (with_changed_u one es), find-changed, changed-twice)

-- ---- the record

pub set_twice :
    (key : List ℕ) (v w : List (List ℕ)) (r : Record) → keyword_error key v ≡ None →
    edited_record key (Some w) (edited_record key (Some v) r) ≡ edited_record key (Some w) r
unfolding edited_record
set_twice key v w r none = grind (arith, common_steps, fits_from, u-twice, some-put, with-twice)

-- ---- subtags that are no keys are passed

module _ (key : List ℕ) where
  pub put-passed : (stands : Bool) (keyword a b : List (List ℕ)) → AreNoKeys a → put_keyword key stands keyword (a ++ b) ≡ a ++ put_keyword key stands keyword b
  put-passed stands keyword [] b all = refl
  put-passed stands keyword (s ∷ a) b all = grind (arith, common_steps, put-passed stands keyword a b all.1)

  pub without-passed : (a b : List (List ℕ)) → AreNoKeys a → without_keyword key (a ++ b) ≡ a ++ without_keyword key b
  without-passed [] b all = refl
  without-passed (s ∷ a) b all = grind (arith, common_steps, without-passed a b all.1)

  pub find-passed : (a b : List (List ℕ)) → AreNoKeys a → find (is_this_key key) (a ++ b) ≡ find (is_this_key key) b
  find-passed [] b all = refl
  find-passed (s ∷ a) b all = ap (λ t. cond (t && are_alike s key) (Some s) (find (is_this_key key) (a ++ b))) all.0 ∙ find-passed a b all.1

-- ---- keywords

-- a key with its value, or nothing
abbrev pub block : (List ℕ → Option (List (List ℕ))) → List ℕ → List (List ℕ)
block value key = option_map_or (λ v. key ∷ v) (value key) []

abbrev pub blocks : (List ℕ → Option (List (List ℕ))) → List (List ℕ) → List (List ℕ)
blocks value keys = flat_map (block value) keys

-- what has a value is a key, and there is no key in the value
abbrev pub AreValues : (List ℕ → Option (List (List ℕ))) → Type 0
AreValues value = (key : List ℕ) (v : List (List ℕ)) → value key ≡ Some v → (is_key key ≡ true) × AreNoKeys v

-- other keys and their values are passed
module _ (value : List ℕ → Option (List (List ℕ))) (are : AreValues value) (key : List ℕ) where
  abbrev pub AreOthers : List (List ℕ) → Type 0
  AreOthers keys = AllByRecursion (λ j. are_alike j key ≡ false) keys

  pub without-others :
      (rest : List (List ℕ)) (inside : Bool) (keys : List (List ℕ)) → AreOthers keys → without_within key inside rest ≡ without_keyword key rest →
      without_within key inside (blocks value keys ++ rest) ≡ blocks value keys ++ without_keyword key rest
  without-others rest inside [] others same = same
  without-others rest inside (j ∷ keys) others same = grind (arith, common_steps, without-others rest inside keys others.1 same, without-others rest false keys others.1 refl, without-passed)

  pub without-all : (inside : Bool) (keys : List (List ℕ)) → AreOthers keys → without_within key inside (blocks value keys) ≡ blocks value keys
  without-all inside keys others = grind (arith, nat_tests, append-nil, without-others [] inside keys others)

  pub put-others :
      (stands : Bool) (keyword rest keys : List (List ℕ)) → AllByRecursion (λ j. is_place key stands j ≡ false) keys →
      put_keyword key stands keyword (blocks value keys ++ rest) ≡ blocks value keys ++ put_keyword key stands keyword rest
  put-others stands keyword rest [] places = refl
  put-others stands keyword rest (j ∷ keys) places = grind (arith, common_steps, put-others stands keyword rest keys places.1, put-passed)

  pub find-others : (rest keys : List (List ℕ)) → AreOthers keys → find (is_this_key key) (blocks value keys ++ rest) ≡ find (is_this_key key) rest
  find-others rest [] others = refl
  find-others rest (j ∷ keys) others = grind (arith, common_steps, find-others rest keys others.1, find-passed)

  -- an absent key goes before the first of greater keys
  pub put-first :
      (keyword keys : List (List ℕ)) → AllByRecursion (λ j. is_before (fold_text key) (fold_text j) ≡ true) keys → AreOthers keys →
      put_keyword key false keyword (blocks value keys) ≡ keyword ++ blocks value keys
  put-first keyword [] greater others = sym (append-nil keyword)
  put-first keyword (j ∷ keys) greater others = grind (arith, common_steps, found_some (is_key j ≡ true) (value j) (λ v is. (are j v is).0), put-first keyword keys greater.1 others.1, without-all false (j ∷ keys) others)

  -- ---- all keys: those before the key, the key, and those after it

  not_places : (stands : Bool) (keys : List (List ℕ)) → AllByRecursion (λ j. is_before (fold_text key) (fold_text j) ≡ false) keys → AreOthers keys → AllByRecursion (λ j. is_place key stands j ≡ false) keys
  not_places stands [] less others = tt
  not_places stands (j ∷ keys) less others = grind (arith, common_steps, not_places stands keys less.1 others.1)

  module _ {keys : List (List ℕ)} (s : KeySplit key keys) where
    -- the key with its old value goes
    old-gone : (old : List (List ℕ)) → value key ≡ Some old → without_keyword key (key ∷ (old ++ blocks value s.after)) ≡ blocks value s.after
    old-gone old is = grind (arith, nat_tests, without-value, without-all, alike-itself key)

    pub removed-among : without_keyword key (blocks value s.before ++ (block value key ++ blocks value s.after)) ≡ blocks value s.before ++ blocks value s.after
    removed-among = grind (arith, common_steps, without-others (block value key ++ blocks value s.after) false s.before s.before_others refl, without-all false s.after s.after_others, old-gone)

    pub find-among : find (is_this_key key) (blocks value s.before ++ (block value key ++ blocks value s.after)) ≡ option_map (λ v. key) (value key)
    find-among = grind (arith, common_steps, find-others (block value key ++ blocks value s.after) s.before s.before_others, find-others [] s.after s.after_others, append-nil, found_some (is_key key ≡ true) (value key) (λ v is. (are key v is).0), alike-itself key)

    pub put-among :
        (new : List (List ℕ)) (stands : Bool) → stands ≡ option_map_or (λ v. true) (value key) false →
        put_keyword key stands (key ∷ new) (blocks value s.before ++ (block value key ++ blocks value s.after)) ≡ blocks value s.before ++ ((key ∷ new) ++ blocks value s.after)
    put-among new stands same =
        put-others stands (key ∷ new) (block value key ++ blocks value s.after) s.before (not_places stands s.before s.early s.before_others)
        ∙ ap (λ t. blocks value s.before ++ t) (by_value stands (value key) refl same)
      where
        by_value :
            (b : Bool) (o : Option (List (List ℕ))) → value key ≡ o → b ≡ option_map_or (λ v. true) o false →
            put_keyword key b (key ∷ new) (option_map_or (λ v. key ∷ v) o [] ++ blocks value s.after) ≡ (key ∷ new) ++ blocks value s.after
        by_value true (Some old) is same = grind (arith, nat_tests, are key old is, alike-itself key, old-gone old is)
        by_value false None is same = put-first (key ∷ new) s.after s.late s.after_others
        by_value true None is same = absurd cc
        by_value false (Some old) is same = absurd cc
