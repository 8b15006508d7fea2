-- What a prepared form says of the tag for which it was prepared.
use Rattle.langtag_scan.proofs.Prelude.{common_steps, ◌≡◌, rules, ℕ, Bool, cond, true, List, [], ◌∷◌, ◌==◌, Option, Some, refl, subst, sym, ap, ◌&&◌, ◌||◌, get_or, arith, bytes_eq, ◌≤◌, length, ◌<◌, false, nat_tests, and_parts, eqb-true, or_cases, false_from_ne_true, bytes_eq-Decides, ForSome, MatchOption, None}
use Rattle.std.proofs.lemmas.Grind.{same_number_lists}
use Rattle.langtag_choice.specs.Distance.{by_language, distance_of_texts, fields_distance, region_distance}
use Rattle.langtag_choice.specs.Near.{IsNearer}
use Rattle.langtag_choice.specs.declared.nearness.Nearness.{Nearness}
use Rattle.langtag_text.specs.Fields.{Fields}
use Rattle.langtag_choice.specs.FirstLetters.{first_two}
use Rattle.langtag_choice.specs.NearLanguages.{HasNumber}
use Rattle.langtag_choice.specs.Nearness.{unlikely, unlikely_form, unlikely_kept, unlikely_of}
use Rattle.langtag_choice.specs.Prepared.{has_fields, has_head, is_prepared_for}
use Rattle.langtag_choice.specs.declared.prepared_form.PreparedForm.{PreparedForm}
use Rattle.std.proofs.lemmas.Bool.{eq-eqb}
use Rattle.langtag_scan.specs.Grammar.{are_alike, are_letters, is_alphanumeric, is_digit, is_letter, is_primary}
use Rattle.langtag_text.specs.Numbers.{letter_number}
use Rattle.langtag_text.specs.FieldClasses.{is_language_field, is_script_field, is_region_field}
use Rattle.langtag_scan.proofs.Laws.{script_four, region_two_three}
use Rattle.langtag_cldr.specs.Matching.{matching_form}
use Rattle.langtag_cldr.specs.Numbers.{name_text}
use Rattle.langtag_text.proofs.Alike.{same_fields}

-- ---- a field that zeros fill up to four bytes

pub not_zero : (b : ℕ) → is_alphanumeric b ≡ true → (b == 0) ≡ false
unfolding is_letter is_digit
not_zero b is = false_from_ne_true (b == 0) (λ zero. let no : false ≡ true = subst (λ n. is_alphanumeric n ≡ true) (eqb-true b 0 zero) is in absurd cc)

-- no field has one byte
pub language_counted : (text : List ℕ) → is_language_field text ≡ true → length text ≡ 1 → ⊥
unfolding is_primary
language_counted text good one = grind (arith, common_steps)

pub script_counted : (text : List ℕ) → is_script_field text ≡ true → length text ≡ 1 → ⊥
script_counted text good = grind (arith, script_four)

pub region_counted : (text : List ℕ) → is_region_field text ≡ true → length text ≡ 1 → ⊥
region_counted text good = grind (arith, region_two_three)

-- a form is kept if each of its members is
pub form_is_kept :
    (f : Fields) (first second : ℕ) (p : PreparedForm) → length f.language ≤ 3 → are_letters f.language ≡ true → letter_number f.language ≡ p.number →
    p.letters ≡ first ∷ second ∷ [] → name_text p.language ≡ f.language → name_text p.script ≡ f.script → name_text p.region ≡ f.region →
    unlikely_form f ≡ p.unlikely → (has_head f (first, second) p && has_fields f p) ≡ true
form_is_kept f first second p short are number letters language script region unlikely =
    grind (arith, nat_tests, common_steps, eq-eqb, bytes_eq-Decides)

pub or_second : (a b : Bool) → b ≡ true → (a || b) ≡ true
or_second a b is = grind (arith, nat_tests)

pub record Kept (tag : List ℕ) (p : PreparedForm) : Type 0 where
  pub form : Fields
  pub letters : ℕ × ℕ
  pub form_is : matching_form tag ≡ Some form
  pub letters_are : first_two tag ≡ Some letters
  pub head : has_head form letters p ≡ true
  pub fields : has_fields form p ≡ true

kept_of : (tag : List ℕ) (p : PreparedForm) → is_prepared_for tag p ≡ true → (p.number ≡ 0 → ⊥) → Kept tag p
unfolding is_prepared_for
kept_of tag p is some = grind (arith, eqb-true, or_cases, and_parts)

-- the form that is kept is the form of the tag
pub form_kept :
    (tag : List ℕ) (p : PreparedForm) (fields : Fields) → is_prepared_for tag p ≡ true → (p.number ≡ 0 → ⊥) →
    fields.language ≡ name_text p.language → fields.script ≡ name_text p.script → fields.region ≡ name_text p.region → matching_form tag ≡ Some fields
form_kept tag p fields is some language script region =
    let kept = kept_of tag p is some in
    grind (arith, and_parts, bytes_eq-Decides, same_fields kept.form fields)

-- the number that is kept is the number of the tag's language
pub number_kept : (tag : List ℕ) (p : PreparedForm) (number : ℕ) → is_prepared_for tag p ≡ true → (p.number ≡ 0 → ⊥) → number ≡ p.number → ForSome (matching_form tag) (HasNumber number)
number_kept tag p number is some same =
    let kept = kept_of tag p is some in
    grind (arith, nat_tests, and_parts, eqb-true)

-- what is kept of the region is how unlikely the tag is
pub unlikely_is_kept : (tag : List ℕ) (p : PreparedForm) → is_prepared_for tag p ≡ true → (p.number ≡ 0 → ⊥) → p.unlikely ≡ unlikely tag
unfolding unlikely unlikely_of
unlikely_is_kept tag p is some =
    let kept = kept_of tag p is some in
    grind (arith, nat_tests, and_parts, eqb-true)

-- how unlikely a form is, whether it was kept or not
pub unlikely_either : (kept : Option ℕ) (form : Option Fields) (tag : List ℕ) → ForSome kept (λ n. n ≡ unlikely tag) → form ≡ matching_form tag → unlikely_kept kept form ≡ unlikely tag
unfolding unlikely
unlikely_either None form tag kept is = ap unlikely_of is
unlikely_either (Some n) form tag kept is = kept n refl

-- the letters that are kept are the first letters of the tag
pub letters_kept : (tag : List ℕ) (p : PreparedForm) → is_prepared_for tag p ≡ true → (p.number ≡ 0 → ⊥) → first_two tag ≡ Some (get_or p.letters 0 0, get_or p.letters 1 0)
letters_kept tag p is some =
    let kept = kept_of tag p is some in
    grind (arith, nat_tests, and_parts, eqb-true)

-- ---- how near it is

-- the nearness of forms is the nearness of their texts
pub near_forms :
    (result : Option Nearness) (limit : ℕ) (range tag : List ℕ) (d s : Fields) → matching_form range ≡ Some d → matching_form tag ≡ Some s →
    MatchOption result (limit ≤ fields_distance d s) (IsNearer limit (fields_distance d s) (Some s)) →
    MatchOption result (limit ≤ distance_of_texts range tag) (IsNearer limit (distance_of_texts range tag) (matching_form tag))
unfolding distance_of_texts
near_forms result limit range tag d s range_is tag_is near = grind arith

-- ---- another region

either_some : (b : Bool) (x y : ℕ) → 1 ≤ x → 1 ≤ y → 1 ≤ cond b x y
either_some true x y one other = one
either_some false x y one other = other

region_some : (d s : Fields) → are_alike d.region s.region ≡ false → 1 ≤ region_distance d s
unfolding region_distance
region_some d s other =
    rw other (either_some (are_alike d.language s.language) (by_language d s) 4 (search (rules, either_some)) (omega arith))

pub region_apart :
    (range tag : List ℕ) (p : PreparedForm) (d : Fields) → matching_form range ≡ Some d → is_prepared_for tag p ≡ true → (p.number ≡ 0 → ⊥) → are_alike d.region (name_text p.region) ≡ false →
    1 ≤ distance_of_texts range tag
unfolding distance_of_texts
region_apart range tag p d range_is is some other =
    let kept = kept_of tag p is some in
    grind (arith, and_parts, bytes_eq-Decides, region_some d kept.form)

-- ---- equal strings

pub unequal_lengths : (a b : List ℕ) → (length a ≡ length b → ⊥) → false ≡ bytes_eq a b
unequal_lengths a b other = sym (false_from_ne_true (bytes_eq a b) (λ yes. other (ap length ((bytes_eq-Decides a b).0 yes))))

pub unequal_at : (a b : List ℕ) (k : ℕ) → (get_or a k 0 ≡ get_or b k 0 → ⊥) → false ≡ bytes_eq a b
unequal_at a b k other = sym (false_from_ne_true (bytes_eq a b) (λ yes. other (ap (λ t. get_or t k 0) ((bytes_eq-Decides a b).0 yes))))

pub equal_lists : (a b : List ℕ) → length a ≡ length b → ((k : ℕ) → k < length a → get_or a k 0 ≡ get_or b k 0) → true ≡ bytes_eq a b
equal_lists a b same each = sym ((bytes_eq-Decides a b).1 (same_number_lists a b same each))
