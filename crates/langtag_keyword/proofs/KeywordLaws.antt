-- What is set is read, what is removed is not, and other keys keep their values.
use Rattle.std.proofs.Common.{MutBor}
use Rattle.langtag_keyword.proofs.Common.{common_steps, flat_map-append, ◌≡◌, ℕ, ◌+◌, Bool, true, false, cond, ◌&&◌, List, [], ◌∷◌, ◌++◌, length, find, Option, None, Some, unwrap_or, refl, ap, ◌∙◌, arith, eqb-true, not, fold, take, sym, append_assoc, and_parts, false≢true, AllByRecursion, flat_map, is_some, nat_tests, are_alike, are_alike-decides, is_extension_subtag, is_place, is_this_key, is_type, is_unicode_key, keyword_error, put_keyword, with_keyword, without_keyword, without_within, at_place, changed_from, before_key, is_key, value_of, length-slice_split, with_joined, of_primary, to_variants, Extension, IsWellFormed, Record, extension_flat, one_flat, private_part_flat, spell, is_hyphen, join, segments, extension_form, is_language_or_none, is_of, is_transform, transform_form, unicode_form, append-nil, Output, Pushes, HasText, pushes_both, subst}
use Rattle.langtag_scan.proofs.Prelude.{leb, leb-true}
use Rattle.langtag_keyword.specs.Edit.{invalid_type, invalid_type_from, is_place_of_u}
use Rattle.langtag_text.specs.Output.{with_subtag}
use Rattle.langtag_scan.proofs.Laws.{take-join}
use Rattle.langtag_keyword.specs.Form.{is_language_id}

-- no subtag is a key
abbrev pub AreNoKeys : List (List ℕ) → Type 0
AreNoKeys value = AllByRecursion (λ s. is_key s ≡ false) value

-- ---- what stands before the first key

-- `opens` says which subtags are keys
module _ (opens : List ℕ → Bool) where
  -- no subtag is a key
  abbrev pub Plain : List (List ℕ) → Type 0
  Plain ss = AllByRecursion (λ s. opens s ≡ false) ss

  pub before-plain : (xs ys : List (List ℕ)) → Plain xs → before_key opens (xs ++ ys) ≡ xs ++ before_key opens ys
  before-plain [] ys plain = refl
  before-plain (x ∷ xs) ys plain = grind (arith, common_steps, before-plain xs ys plain.1)

  pub value-plain : (key : List ℕ) (xs ys : List (List ℕ)) → Plain xs → value_of opens key (xs ++ ys) ≡ value_of opens key ys
  value-plain key [] ys plain = refl
  value-plain key (x ∷ xs) ys plain = grind (arith, common_steps, value-plain key xs ys plain.1)

module _ (key : List ℕ) where
  -- nothing stands before the first key where a value went
  before-gone : (ss : List (List ℕ)) → before_key is_key (without_within key true ss) ≡ []
  before-gone [] = refl
  before-gone (s ∷ ss) = grind (arith, nat_tests, before-gone ss)

  -- and what stood there stays where none went
  pub before-kept : (ss : List (List ℕ)) → before_key is_key (without_keyword key ss) ≡ before_key is_key ss
  before-kept [] = refl
  before-kept (s ∷ ss) = grind (arith, nat_tests, before-kept ss, before-gone ss)

-- ---- what is set is read

pub alike-itself : (a : List ℕ) → are_alike a a ≡ true
alike-itself a = (are_alike-decides a a).1 refl

-- the key as it stands is the key
pub standing-this : (key : List ℕ) (ss : List (List ℕ)) → is_key key ≡ true → is_this_key key (unwrap_or (find (is_this_key key) ss) key) ≡ true
standing-this key [] is = ap (λ b. b && are_alike key key) is ∙ alike-itself key
standing-this key (s ∷ ss) is = grind (arith, nat_tests, standing-this key ss is)

-- each that is passed before a place passes no test
abbrev pub ArePassed : {X : Type 0} → (X → Bool) → (X → Bool) → List X → Type 0
ArePassed place test xs = AllByRecursion (λ x. place x ≡ false → test x ≡ false) xs

-- so where one passes the test, whose place this is, and where none does
module _ {X : Type 0} (place : Bool → X → Bool) (test : X → Bool) (stands : (x : X) → place true x ≡ test x) where
  passed-standing : (xs : List X) → ArePassed (place true) test xs
  passed-standing [] = tt
  passed-standing (x ∷ xs) = ((λ is. sym (stands x) ∙ is), passed-standing xs)

  pub passed : (xs : List X) (o : Option X) → find test xs ≡ o → ArePassed (place (is_some o)) test xs
  passed [] o is = tt
  passed (x ∷ xs) None is = grind (arith, nat_tests, passed xs None)
  passed xs (Some x) is = passed-standing xs

module _ (key k : List ℕ) (value : List (List ℕ)) (this : is_this_key key k ≡ true) (all : AreNoKeys value) where
  -- what stands before the first key stays
  pub before-put : (stands : Bool) (ss : List (List ℕ)) → before_key is_key (put_keyword key stands (k ∷ value) ss) ≡ before_key is_key ss
  before-put stands [] = grind (arith, nat_tests)
  before-put stands (s ∷ ss) = grind (arith, common_steps, before-put stands ss, and_parts)

  -- a key begins at a place
  value-here : (stands : Bool) (s : List ℕ) (ss : List (List ℕ)) → is_place key stands s ≡ true → value_of is_key key ((k ∷ value) ++ without_keyword key (s ∷ ss)) ≡ Some value
  value-here stands s ss place = grind (arith, common_steps, and_parts, append-nil, before-kept key (s ∷ ss), before-plain is_key value (without_keyword key (s ∷ ss)) all)

  -- where each subtag that is passed is another key, or no key
  value-put : (stands : Bool) (ss : List (List ℕ)) → ArePassed (is_place key stands) (is_this_key key) ss → value_of is_key key (put_keyword key stands (k ∷ value) ss) ≡ Some value
  value-put stands [] passed = grind (arith, nat_tests, append-nil, before-plain is_key value [] all)
  value-put stands (s ∷ ss) passed = grind (arith, nat_tests, value-here stands s ss, value-put stands ss passed.1)

-- get after remove
pub value-without : (key : List ℕ) (inside : Bool) (ss : List (List ℕ)) → value_of is_key key (without_within key inside ss) ≡ None
value-without key inside [] = refl
value-without key inside (s ∷ ss) = grind (arith, common_steps, value-without key true ss, value-without key false ss)

-- ---- other keys stay

apart : (s key other : List ℕ) → are_alike key other ≡ false → are_alike s key ≡ true → are_alike s other ≡ false
apart s key other differ same = grind (arith, nat_tests, are_alike-decides s key, are_alike-decides s other, are_alike-decides key other)

module _ (key other : List ℕ) (differ : are_alike key other ≡ false) where
  pub others-without : (inside : Bool) (ss : List (List ℕ)) → value_of is_key other (without_within key inside ss) ≡ value_of is_key other ss
  others-without inside [] = refl
  others-without inside (s ∷ ss) = grind (arith, common_steps, others-without true ss, others-without false ss, apart s key other differ, before-kept)

  module _ (k : List ℕ) (value : List (List ℕ)) (this : is_this_key key k ≡ true) (all : AreNoKeys value) (stands : Bool) where
    others-put : (ss : List (List ℕ)) → value_of is_key other (put_keyword key stands (k ∷ value) ss) ≡ value_of is_key other ss
    others-put [] = grind (arith, nat_tests, append-nil, apart k key other differ, and_parts (is_key k) (are_alike k key) this, value-plain is_key other value [] all)
    others-put (s ∷ ss) =
        grind (arith, common_steps, others-put ss, apart k key other differ, and_parts (is_key k) (are_alike k key) this, value-plain is_key other value (without_keyword key (s ∷ ss)) all, others-without false (s ∷ ss), before-put key k value this all stands ss)

-- ---- which values have no key

pub type-no_key : (s : List ℕ) → is_type s ≡ true → is_key s ≡ false
type-no_key s is = grind (arith, nat_tests, eqb-true (length s) 2, leb-true 3 (length s) (and_parts (leb 3 (length s)) (is_extension_subtag s) is).0)

-- what holds of types holds of each subtag of a value that may be set
pub types-each :
    (P : List ℕ → Type 0) → ((s : List ℕ) → is_type s ≡ true → P s) → (at : ℕ) (value : List (List ℕ)) → invalid_type_from at value ≡ None → AllByRecursion P value
types-each P of_type at [] none = tt
types-each P of_type at (s ∷ value) none = grind (arith, nat_tests, types-each P of_type (at + (length s + 1)) value)

-- ---- the laws of the setters

-- a keyword that may be set: only its first subtag is a key
pub record Fits (key : List ℕ) (value : List (List ℕ)) : Type 0 where
  pub key_fits : is_unicode_key key ≡ true
  pub types : invalid_type value ≡ None
  pub two : is_key key ≡ true
  pub no_keys : AreNoKeys value

pub fits_from : (key : List ℕ) (value : List (List ℕ)) → keyword_error key value ≡ None → Fits key value
fits_from key value none = grind (arith, common_steps, false≢true, types-each (λ s. is_key s ≡ false) type-no_key 0 value)

-- what is set is read
pub read_after_set : (key : List ℕ) (value ss : List (List ℕ)) → keyword_error key value ≡ None → value_of is_key key (with_keyword key value ss) ≡ Some value
read_after_set key value ss none =
    grind (arith, nat_tests, fits_from key value none, value-put key, standing-this key ss, passed (is_place key) (is_this_key key) (λ s. refl) ss)

-- and other keys have the values that they had
pub others_after_set :
    (key other : List ℕ) (value ss : List (List ℕ)) → keyword_error key value ≡ None → are_alike key other ≡ false → value_of is_key other (with_keyword key value ss) ≡ value_of is_key other ss
others_after_set key other value ss none differ =
    let fits = fits_from key value none in
    others-put key other differ _ value (standing-this key ss fits.two) fits.no_keys (is_some (find (is_this_key key) ss)) ss

-- what is removed is not there
pub none_after_removal : (key : List ℕ) (ss : List (List ℕ)) → value_of is_key key (without_keyword key ss) ≡ None
none_after_removal key ss = value-without key false ss

pub others_after_removal : (key other : List ℕ) (ss : List (List ℕ)) → are_alike key other ≡ false → value_of is_key other (without_keyword key ss) ≡ value_of is_key other ss
others_after_removal key other ss differ = others-without key other differ false ss

-- ---- the forms of extensions

-- a text has a segment
pub language-some : (text : List ℕ) (ss : List (List ℕ)) → segments text ≡ ss → is_language_id (segments text) ≡ is_language_or_none ss
language-some text ss is = grind (arith, nat_tests, length-slice_split is_hyphen text)

-- ---- which form an extension has

-- the form, by what is tested
abbrev pub form_by : Bool → Bool → Extension → Extension
form_by u t e =
    cond u (record { singleton = 117; subtags = unicode_form e.subtags }) (cond t (record { singleton = 116; subtags = transform_form e.subtags }) e)

pub form_tested :
    (u t a b : Bool) (e : Extension) → (is_of 117 e && not u) ≡ a → (is_of 116 e && not t && is_transform e.subtags) ≡ b → extension_form u t e ≡ form_by a b e
form_tested u t a b e one two = ap (λ x. form_by x (is_of 116 e && not t && is_transform e.subtags) e) one ∙ ap (λ x. form_by a x e) two

-- one more extension, where the tests of the extension before those that are left have the same answers
pub forms-next :
    (forms : Bool → Bool → List Extension) (x y : Extension) (a b c d : Bool) (others : List Extension) → x ≡ y → a ≡ b → c ≡ d → forms b d ≡ others → x ∷ forms a c ≡ y ∷ others
forms-next forms x y a b c d others one two three four = cc

-- ---- the whole tag

-- what precedes the extensions, at the start of a tag
pub head-cut : (r : Record) → take (length (join (to_variants r))) (spell r) ≡ join (to_variants r)
head-cut r =
    let cut = take-join r.primary (r.extended ++ (one_flat r.script ++ (one_flat r.region ++ r.variants))) (flat_map extension_flat r.extensions ++ private_part_flat r.private_use) in
    simp append_assoc at cut

flat-head : (p : List ℕ) (a b c d e : List (List ℕ)) → (p ∷ (a ++ (b ++ (c ++ d)))) ++ e ≡ p ∷ (a ++ (b ++ (c ++ (d ++ e))))
flat-head p a b c d e = simp append_assoc

-- a tag with other extensions, put subtag by subtag
pub extensions_joined :
    (r : Record) → IsWellFormed r → (es : List Extension) → fold with_subtag [] (to_variants r ++ (flat_map extension_flat es ++ private_part_flat r.private_use)) ≡ spell (record r { extensions = es })
unfolding with_subtag
extensions_joined r fits es =
    ap (fold with_subtag []) (flat-head r.primary r.extended (one_flat r.script) (one_flat r.region) r.variants (flat_map extension_flat es ++ private_part_flat r.private_use))
    ∙ sym (with_joined [] r.primary _ (of_primary r.primary fits.primary).some)

-- and put part by part
pub parts_put :
    (r : Record) → IsWellFormed r → (es : List Extension) (a b c d : Output) → Pushes (to_variants r) a b → Pushes (flat_map extension_flat es) b c →
    Pushes (private_part_flat r.private_use) c d → (first : MutBor (List ℕ)) → HasText first a [] → HasText first d (spell (record r { extensions = es }))
parts_put r fits es a b c d head these private_use first has =
    subst (HasText first d) (extensions_joined r fits es)
    (pushes_both (to_variants r) _ a b d head (pushes_both (flat_map extension_flat es) (private_part_flat r.private_use) b c d these private_use) first [] has)

-- ---- the key as it stands

-- the keyword that is put, by the key that stands there, and where
abbrev pub put_at_standing : List ℕ → Option (List ℕ) → List (List ℕ) → List (List ℕ) → List (List ℕ)
put_at_standing key standing value ss = put_keyword key (is_some standing) (unwrap_or standing key ∷ value) ss

-- ---- the place of `u`

module _ (change : List (List ℕ) → List (List ℕ)) (stands : Bool) (e : Extension) (es : List Extension) where
  pub u-here :
      is_place_of_u stands e ≡ true →
      flat_map extension_flat (changed_from change stands (e ∷ es)) ≡ flat_map extension_flat (at_place change stands e) ++ flat_map extension_flat es
  u-here is = grind (arith, nat_tests, flat_map-append extension_flat)

  pub u-later :
      is_place_of_u stands e ≡ false →
      flat_map extension_flat (changed_from change stands (e ∷ es)) ≡ extension_flat e ++ flat_map extension_flat (changed_from change stands es)
  u-later other = ap (λ b. flat_map extension_flat (cond b (at_place change stands e ++ es) (e ∷ changed_from change stands es))) other
