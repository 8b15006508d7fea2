-- The parts of `t`: a language identifier whose parts are found again, and fields that have values.
use Rattle.langtag_keyword.proofs.Common.{IsTrue, each-weaker, ◌≡◌, ℕ, ◌≤◌, Bool, true, false, ◌&&◌, ◌||◌, List, [], ◌∷◌, ◌++◌, length, map, Some, refl, sym, ap, subst, ◌∙◌, append-nil, append_assoc, arith, false≢true, AllByRecursion, flat_map, list_all, list_any, nat_tests, length-fold, of_extension_subtag, each-append, each_from_test, each_subtag, subtags-joined, are_alike, fold_text, are_alike-decides, is_extension_subtag, is_region, is_script, is_variant, one_flat, join, subtags, after_one, are_different_variants, are_fields, before_key, value_of, is_field_key, both, each-map, length-map}
use Rattle.langtag_scan.proofs.Prelude.{leb, leb-true}
use Rattle.langtag_scan.specs.Grammar.{are_letters}
use Rattle.langtag_text.specs.FieldClasses.{is_region_field, is_script_field}
use Rattle.langtag_text.specs.Fields.{Fields, subtag_of}
use Rattle.langtag_scan.proofs.Disjoint.{first_no_digit, letter_no_digit, region_short, region_two_three, script_four, variant_long, variant_four}
use Rattle.langtag_text.proofs.Letters.{primary_letters}
use Rattle.langtag_keyword.specs.Aliases.{transform_type_aliases}
use Rattle.langtag_keyword.specs.Form as form
use Rattle.langtag_keyword.specs.Form.{may_follow, transform_value}
use Rattle.langtag_keyword.specs.Identifier.{identifier_flat}
use Rattle.langtag_keyword.proofs.CanonicalKeywords.{alike-back}
use Rattle.langtag_keyword.proofs.FormRecords.{Good, good-value, pass-type}
use Rattle.langtag_keyword.proofs.IdentifierParts.{AreSubtags, language_primary, AreVariants, Apart}
use Rattle.langtag_keyword.proofs.KeywordsInForm.{AreKeywords, values_in_form}
use Rattle.langtag_keyword.proofs.WalkLaws.{field_key-fold}

-- ---- no subtag of a language identifier is the key of a field

abbrev pub AreNoFields : List (List ℕ) → Type 0
AreNoFields ss = AllByRecursion (λ s. is_field_key s ≡ false) ss

letters-no_field : (s : List ℕ) → are_letters s ≡ true → is_field_key s ≡ false
letters-no_field s is = grind (arith, nat_tests, both, letter_no_digit)

long-no_field : (s : List ℕ) → 3 ≤ length s → is_field_key s ≡ false
long-no_field s long = grind (arith, nat_tests)

script-no_field : (s : List ℕ) → is_script_field s ≡ true → AreNoFields (one_flat (subtag_of s))
script-no_field s is = grind (arith, nat_tests, letters-no_field s, script_four s)

region-no_field : (s : List ℕ) → is_region_field s ≡ true → AreNoFields (one_flat (subtag_of s))
region-no_field s is = grind (arith, nat_tests, region_two_three s, letters-no_field s, long-no_field s)

variants-no_field : (vs : List (List ℕ)) → AreVariants vs → AreNoFields vs
variants-no_field = each-weaker (λ v. IsTrue (is_variant v)) (λ s. is_field_key s ≡ false) (λ v is. let four = variant_four v is in long-no_field v (omega (arith, four)))

pub identifier-no_field : (f : Fields) (vs : List (List ℕ)) → AreSubtags f → AreVariants vs → AreNoFields (identifier_flat f vs)
identifier-no_field f vs subtags variants =
    grind (arith, nat_tests, letters-no_field, primary_letters, language_primary, each-append, script-no_field, region-no_field, variants-no_field)

-- ---- the parts of a language identifier are found again

pub variant-no_script : (v : List ℕ) → is_variant v ≡ true → is_script v ≡ false
variant-no_script v is = grind (arith, nat_tests, script_four v, variant_long v is, first_no_digit v)

pub variant-no_region : (v : List ℕ) → is_variant v ≡ true → is_region v ≡ false
variant-no_region v is = grind (arith, nat_tests, region_short v, variant_four v is)

pub region-no_script : (s : List ℕ) → is_region s ≡ true → is_script s ≡ false
region-no_script s is = grind (arith, nat_tests, region_short s is, script_four s)

pub after_region : (s : List ℕ) (vs : List (List ℕ)) → is_region_field s ≡ true → AreVariants vs → after_one is_region (one_flat (subtag_of s) ++ vs) ≡ vs
after_region s vs is variants = grind (arith, nat_tests, variant-no_region)

pub after_script : (s r : List ℕ) (vs : List (List ℕ)) → is_script_field s ≡ true → is_region_field r ≡ true → AreVariants vs →
    after_one is_script (one_flat (subtag_of s) ++ (one_flat (subtag_of r) ++ vs)) ≡ one_flat (subtag_of r) ++ vs
after_script s r vs is region variants = grind (arith, nat_tests, region-no_script, variant-no_script)

none-alike : (v : List ℕ) (vs : List (List ℕ)) → AllByRecursion (λ y. are_alike y v ≡ false) vs → list_any (are_alike v) vs ≡ false
none-alike v [] apart = refl
none-alike v (y ∷ ys) apart = grind (arith, nat_tests, alike-back y v apart.0, none-alike v ys apart.1)

different : (vs : List (List ℕ)) → AreVariants vs → Apart are_alike vs → are_different_variants vs ≡ true
different [] variants apart = refl
different (v ∷ vs) variants apart = grind (arith, nat_tests, none-alike v vs apart.0, different vs variants.1 apart.1)

pub identifier-variants :
    (f : Fields) (vs : List (List ℕ)) → AreSubtags f → AreVariants vs → Apart are_alike vs →
    are_different_variants (after_one is_region (after_one is_script (one_flat (subtag_of f.script) ++ (one_flat (subtag_of f.region) ++ vs)))) ≡ true
identifier-variants f vs subtags variants apart = grind (arith, nat_tests, after_script, after_region, different)

-- ---- fields have values

-- there is a subtag, and each has three characters or more
record IsValue (ss : List (List ℕ)) : Type 0 where
  some : 1 ≤ length ss
  long : AllByRecursion (λ s. leb 3 (length s) ≡ true) ss

-- the subtags of a field after the first one
fields-long : (ss : List (List ℕ)) → are_fields true false ss ≡ true → AllByRecursion (λ s. leb 3 (length s) ≡ true) (before_key is_field_key ss)
fields-long [] are = tt
fields-long (s ∷ ss) are = grind (arith, nat_tests, fields-long ss, both)

-- the subtags after a key
fields-value : (ss : List (List ℕ)) → are_fields true true ss ≡ true → IsValue (before_key is_field_key ss)
fields-value [] are = absurd (false≢true are)
fields-value (s ∷ ss) are = grind (arith, nat_tests, false≢true, both (leb 3 (length s)), fields-long ss)

record FoundField (key : List ℕ) (w : List (List ℕ)) : Type 0 where
  opens : is_field_key key ≡ true
  value : IsValue w

or_true : (b : Bool) → (b || true) ≡ true
or_true b = grind (arith, nat_tests)

found-field : (inside after : Bool) (key : List ℕ) (ss w : List (List ℕ)) → are_fields inside after ss ≡ true → value_of is_field_key key ss ≡ Some w → FoundField key w
found-field inside after key [] w are found = absurd cc
found-field inside after key (s ∷ ss) w are found =
    grind (arith, nat_tests, both (may_follow inside after s) (are_fields (inside || is_field_key s) (is_field_key s) ss) are, found-field (inside || is_field_key s) (is_field_key s) key ss w, are_alike-decides s key, or_true inside, field_key-fold key, field_key-fold s, fields-value ss)

transform-value : (key : List ℕ) (w : List (List ℕ)) → Good w → IsValue w → IsValue (subtags (transform_value key (join w)))
unfolding transform_value transform_type_aliases
transform-value key w good value =
    let own = subtags-joined w (each_subtag is_extension_subtag of_extension_subtag w good) in
    pass-type (λ text. leb 1 (length (subtags text)) && list_all (λ s. leb 3 (length s)) (subtags text)) (λ text. IsValue (subtags text))
    (λ text is. let parts = both _ _ is in record { some = leb-true _ _ parts.0; long = each_from_test (λ s. leb 3 (length s)) (subtags text) parts.1 })
    transform_type_aliases key (join w) refl (subst IsValue (sym own) value)

lower-value : (ss : List (List ℕ)) → IsValue ss → IsValue (map fold_text ss)
lower-value ss value = record {
  some = omega (arith, length-map ss fold_text, value.some);
  long = each-map (λ s. leb 3 (length s) ≡ true) (λ s. leb 3 (length s) ≡ true) fold_text (λ s long. ap (leb 3) (length-fold s) ∙ long) ss value.long;
}

value-no_field : (ss : List (List ℕ)) → AllByRecursion (λ s. leb 3 (length s) ≡ true) ss → AreNoFields ss
value-no_field = each-weaker (λ s. leb 3 (length s) ≡ true) (λ s. is_field_key s ≡ false) (λ s long. long-no_field s (leb-true _ _ long))

-- ---- fields, each of which is a key and a value, or nothing

record IsField (ss : List (List ℕ)) : Type 0 where
  follows : (inside : Bool) (rest : List (List ℕ)) → ((b : Bool) → are_fields b false rest ≡ true) → are_fields inside false (ss ++ rest) ≡ true

long-fields :
    (v rest : List (List ℕ)) → AllByRecursion (λ s. leb 3 (length s) ≡ true) v → ((b : Bool) → are_fields b false rest ≡ true) → are_fields true false (v ++ rest) ≡ true
long-fields [] rest long later = later true
long-fields (s ∷ v) rest long later = grind (arith, nat_tests, long-no_field s, leb-true, long-fields v rest long.1 later)

value-fields : (v rest : List (List ℕ)) → IsValue v → ((b : Bool) → are_fields b false rest ≡ true) → are_fields true true (v ++ rest) ≡ true
value-fields [] rest value later = let some = value.some in absurd (omega (arith, some))
value-fields (s ∷ v) rest value later = grind (arith, nat_tests, long-no_field s, leb-true, long-fields v rest value.long.1 later)

field : (key : List ℕ) (v : List (List ℕ)) → is_field_key key ≡ true → IsValue v → IsField (key ∷ v)
field key v opens value = grind (arith, nat_tests, or_true, value-fields v)

nothing : IsField []
nothing = record { follows = λ inside rest later. later inside }

all-fields : (f : List ℕ → List (List ℕ)) → ((key : List ℕ) → IsField (f key)) → (keys : List (List ℕ)) → IsField (flat_map f keys)
all-fields f are [] = nothing
all-fields f are (key ∷ keys) = grind (arith, nat_tests, append_assoc (f key) (flat_map f keys), are key, all-fields f are keys)

module _ (ss : List (List ℕ)) (good : Good ss) (are : are_fields false false ss ≡ true) where
  keyword-field : (key : List ℕ) → IsField (form.keyword_form is_field_key transform_value ss key)
  keyword-field key =
      grind (arith, nat_tests, nothing, found-field false false key ss, field key, lower-value, transform-value key, good-value is_field_key key ss)

  fields : IsField (form.keywords_form is_field_key transform_value ss)
  fields = all-fields _ keyword-field (form.keys_in_order is_field_key ss)

  -- a value is that of a key, and has no keys
  pub field_values : AreKeywords is_field_key (values_in_form is_field_key transform_value ss)
  field_values key v is = grind (arith, nat_tests, found-field false false key ss, lower-value, transform-value key, good-value is_field_key key ss, value-no_field)

  -- after subtags of a language
  pub are-fields : (language : List (List ℕ)) → AreNoFields language → are_fields false false (language ++ form.keywords_form is_field_key transform_value ss) ≡ true
  are-fields [] none = ap (are_fields false false) (sym (append-nil (form.keywords_form is_field_key transform_value ss))) ∙ fields.follows false [] (λ b. refl)
  are-fields (s ∷ language) none = grind (arith, nat_tests, are-fields language none.1)
