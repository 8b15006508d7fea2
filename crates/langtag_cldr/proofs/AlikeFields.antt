-- Fields that are equal but for case have likely subtags that are. A language that is there stays in the matching form.
use Rattle.langtag_scan.proofs.Prelude.{◌≡◌, ℕ, ◌<◌, List, length, option_map, arith, true, Bool, cond, [], ◌∷◌, Option, None, Some, refl, subst, common_steps, nat_tests}
use Rattle.langtag_scan.specs.Grammar.{Alike}
use Rattle.langtag_fields.specs.Fields.{extlang_prefix, is_prefix_of}
use Rattle.langtag_text.specs.Fields.{Fields}
use Rattle.langtag_cldr.specs.Definitions.{completed, letters_replaced, matching_form, most_likely, region_replaced, replaced_form, language_replaced, Likely, are_alike_fields, likely_for, looked_up, filled, or_other, known, known_fields, add_likely, language_alone, without_script, without_region, likely_subtags, add_likely_subtags, canonical_fields, least, remove_likely_subtags, suffices}
use Rattle.langtag_fields.proofs.Values.{value_for-alike}
use Rattle.langtag_scan.proofs.CaseLaw.{length-fold}
use Rattle.langtag_text.proofs.Alike.{AlikeFields, alike_is, are_alike-left, are_alike-right}

pub form_completed : (text : List ℕ) → matching_form text ≡ option_map completed (replaced_form text)
unfolding matching_form replaced_form
form_completed text = grind arith

-- ---- a language that is there stays

pub completed_language : (f : Fields) → 0 < length f.language → (completed f).language ≡ f.language
unfolding most_likely letters_replaced region_replaced
completed_language f some = grind (arith, common_steps)

pub alike_fields : (a b : Fields) → are_alike_fields a b ≡ true → AlikeFields a b
alike_fields a b is = grind (arith, alike_is)

pub fields-right : (a b c : Fields) → AlikeFields b c → are_alike_fields a b ≡ are_alike_fields a c
fields-right a b c h = grind (arith, nat_tests, are_alike-right a.language, are_alike-right a.script, are_alike-right a.region)

-- ---- extended languages

pub is_prefix_of-alike : (l m e f : List ℕ) → Alike l m → Alike e f → is_prefix_of l e ≡ is_prefix_of m f
unfolding extlang_prefix
is_prefix_of-alike l m e f h k = grind (arith, common_steps, value_for-alike, are_alike-right)

-- ---- likely subtags added

pub likely_for-alike : (rows : List Likely) (a b : Fields) → AlikeFields a b → likely_for rows a ≡ likely_for rows b
likely_for-alike [] a b h = refl
likely_for-alike (row ∷ rows) a b h = grind (arith, nat_tests, fields-right row.from a b h, likely_for-alike rows a b h)

pub alone_alike : (a b : Fields) → Alike a.language b.language → AlikeFields (language_alone a) (language_alone b)
alone_alike a b h = record { language = h; script = refl; region = refl }

pub looked_up-alike : (a b : Fields) → AlikeFields a b → looked_up likely_subtags a ≡ looked_up likely_subtags b
looked_up-alike a b h = grind (arith, likely_for-alike)

pub or_other-alike : (a b v : List ℕ) → Alike a b → Alike (or_other a v) (or_other b v)
or_other-alike a b v h = grind arith

-- none and none, or some that are alike
abbrev pub AlikeOptions : Option Fields → Option Fields → Type 0
AlikeOptions None None = Unit {0}
AlikeOptions None (Some b) = ⊥
AlikeOptions (Some a) None = ⊥
AlikeOptions (Some a) (Some b) = AlikeFields a b

-- what holds of none, and of fields that are alike, holds of these
pub by_options :
    (P : Option Fields → Option Fields → Type 0) → P None None → ((a b : Fields) → AlikeFields a b → P (Some a) (Some b)) → (o p : Option Fields) → AlikeOptions o p → P o p
by_options P none some o p same = grind arith

-- what holds of a value twice holds of two that are the same
pub by_same : {A : Type 0} (P : A → A → Type 0) → ((x : A) → P x x) → (x y : A) → x ≡ y → P x y
by_same P each x y same = subst (P x) same (each x)

pub added-alike : (a b : Fields) → AlikeFields a b → AlikeOptions (add_likely likely_subtags a) (add_likely likely_subtags b)
added-alike a b h = grind (arith, looked_up-alike a b h)

filled-alike : (a b v w : Fields) → AlikeFields a b → AlikeFields v w → AlikeFields (filled a v) (filled b w)
filled-alike a b v w h k = grind (arith, common_steps)

-- ---- deprecated subtags replaced

pub known-alike : (unknown a b : List ℕ) → Alike a b → Alike (known unknown a) (known unknown b)
known-alike unknown a b h = grind arith

pub language-alike : (a b : Fields) → AlikeFields a b → AlikeFields (language_replaced a) (language_replaced b)
unfolding language_replaced
language-alike a b h = grind (arith, common_steps, by_same, likely_for-alike, alone_alike, or_other-alike)

pub region-alike : (a b : Fields) → AlikeFields a b → AlikeFields (region_replaced a) (region_replaced b)
unfolding region_replaced
region-alike a b h = grind (arith, common_steps, by_same, likely_for-alike, known-alike)

pub letters-alike : (a b : Fields) → AlikeFields a b → AlikeFields (letters_replaced a) (letters_replaced b)
unfolding letters_replaced
letters-alike a b h = grind (arith, common_steps, region-alike a b h, length-fold)

pub likely_added-alike : (a b : Fields) → AlikeFields a b → AlikeOptions (add_likely_subtags a) (add_likely_subtags b)
unfolding add_likely_subtags
likely_added-alike a b h =
    by_options (λ o p. AlikeOptions (option_map (filled a) o) (option_map (filled b) p)) tt
    (λ v w same. filled-alike a b v w h same) _ _ (added-alike (canonical_fields a) (canonical_fields b) (region-alike _ _ (language-alike a b h)))

-- ---- and removed

pub known_fields-alike : (a b : Fields) → AlikeFields a b → AlikeFields (known_fields a) (known_fields b)
known_fields-alike a b h = grind arith

pub suffices-alike : (m n a b : Fields) → AlikeFields m n → AlikeFields a b → suffices m a ≡ suffices n b
suffices-alike m n a b most few = grind (arith, common_steps, fields-right n, likely_added-alike a b few, are_alike-left)

few-alike :
    (s t u : Bool) (a b m n : Fields) → AlikeFields a b → AlikeFields m n →
    AlikeFields (cond s (language_alone a) (cond t (without_script a) (cond u (without_region a) m))) (cond s (language_alone b) (cond t (without_script b) (cond u (without_region b) n)))
few-alike s t u a b m n few same = grind arith

least-alike : (m n : Fields) → AlikeFields m n → AlikeFields (least m) (least n)
least-alike m n h =
    let k = known_fields-alike m n h in
    rw (
      suffices-alike m n (language_alone (known_fields m)) (language_alone (known_fields n)) h (record { language = k.language; script = refl; region = refl }),
      suffices-alike m n (without_script (known_fields m)) (without_script (known_fields n)) h (record { language = k.language; script = refl; region = k.region }),
      suffices-alike m n (without_region (known_fields m)) (without_region (known_fields n)) h (record { language = k.language; script = k.script; region = refl }),
    )
    (few-alike (suffices n (language_alone (known_fields n))) (suffices n (without_script (known_fields n))) (suffices n (without_region (known_fields n))) (known_fields m) (known_fields n) m n k h)

pub removed-alike : (a b : Fields) → AlikeFields a b → AlikeOptions (remove_likely_subtags a) (remove_likely_subtags b)
removed-alike a b h = grind (arith, nat_tests, least-alike, likely_added-alike a b h)
