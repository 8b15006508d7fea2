-- The distance of texts, and what it is made of, do not change with the case of letters.
use Rattle.langtag_scan.proofs.Prelude.{◌≡◌, ℕ, cond, List, [], ◌∷◌, Option, refl, ap, ◌∙◌, arith, rules, codes, Bool, map, None, Some, option_map, sym, nat_tests, common_steps, option_map_or}
use Rattle.langtag_scan.specs.Grammar.{Alike, are_alike, fold_text, are_alike-decides, is_primary, is_extended, is_script, is_region, subtags}
use Rattle.langtag_scan.proofs.CaseLaw.{fold_text-twice, length-fold, classes-fold, subtags-fold}
use Rattle.langtag_range.specs.Definitions.{basic_text}
use Rattle.langtag_range.proofs.AlikeTexts.{hyphened-fold, is_star-fold}
use Rattle.langtag_range.proofs.BasicForms.{basic_text-alike}
use Rattle.langtag_cldr.specs.Definitions.{base_text, current_text, known, without_region, without_language, most_unknown, most_likely, completed, matching_form, replaced_form, text_fields, fields_of_subtags, counted, last_language, is_extended_by, language_of, region_after, or_other, after_language, script_of, after_script, region_of}
use Rattle.langtag_cldr.proofs.BaseTexts.{base-alike}
use Rattle.langtag_fields.proofs.Values.{preferred_tag-alike}
use Rattle.langtag_text.specs.Fields.{Fields}
use Rattle.langtag_cldr.proofs.MarkFolds.{cond-map, is_extended_by-fold, last_language-fold, marked_region-fold, or_other-fold}
use Rattle.langtag_cldr.proofs.AlikeFields.{AlikeOptions, form_completed, fields-right, alone_alike, added-alike, by_options, language-alike, letters-alike, suffices-alike}
use Rattle.langtag_text.proofs.Alike.{AlikeFields, are_alike-left, are_alike-right}
use Rattle.langtag_choice.specs.Distance.{distance_of_forms, is_among, language_distance, region_distance, script_distance, DistanceIgnoresCase, distance_of_texts}
use Rattle.langtag_choice.specs.Nearness.{unlikely, unlikely_of, unlikely_form}
use Rattle.langtag_choice.specs.Rules.{Rule, distance_by}

-- ---- the matching form

unknown-alike : (a b : Fields) → AlikeFields a b → AlikeFields (most_unknown a) (most_unknown b)
unknown-alike a b h = grind (arith, nat_tests, added-alike (without_language a) (without_language b))

likely-alike : (a b : Fields) → AlikeFields a b → AlikeFields (most_likely a) (most_likely b)
unfolding most_likely
likely-alike a b h =
    by_options (λ o p. AlikeFields (option_map_or (λ most. most) o (most_unknown a)) (option_map_or (λ most. most) p (most_unknown b))) (unknown-alike a b h)
    (λ v w same. same) _ _ (added-alike a b h)

completed-alike : (a b : Fields) → AlikeFields a b → AlikeFields (completed a) (completed b)
completed-alike a b same = likely-alike _ _ (letters-alike a b same)

-- ---- the distance of fields

distance_by-alike :
    (rules : List Rule) (otherwise : ℕ) (a b c d : Fields) → AlikeFields a b → AlikeFields c d → distance_by rules otherwise a c ≡ distance_by rules otherwise b d
distance_by-alike [] otherwise a b c d h k = refl
distance_by-alike (rule ∷ rules) otherwise a b c d h k = grind (arith, common_steps, fields-right, distance_by-alike rules otherwise a b c d h k)

pub both-alike : (a b c d : List ℕ) → Alike a b → Alike c d → are_alike a c ≡ are_alike b d
both-alike a b c d h k = are_alike-left a b c h ∙ are_alike-right b c d k

pub among-alike : (words : List (List ℕ)) (a b : List ℕ) → Alike a b → is_among words a ≡ is_among words b
among-alike [] a b h = refl
among-alike (word ∷ words) a b h = rw (are_alike-right word a b h, among-alike words a b h) refl

regions-alike : (a b c d : Fields) → AlikeFields a b → AlikeFields c d → region_distance a c ≡ region_distance b d
unfolding region_distance
regions-alike a b c d h k = grind (arith, both-alike, common_steps, are_alike-right, among-alike, nat_tests)

-- ---- the law

pub forms-alike :
    (a b c d : List ℕ) → Alike a b → Alike c d → (f g v w : Option Fields) → AlikeOptions f g → AlikeOptions v w → distance_of_forms a c f v ≡ distance_of_forms b d g w
unfolding language_distance script_distance
forms-alike a b c d h k f g v w same also =
    grind (arith, nat_tests, common_steps, both-alike a b c d h k, distance_by-alike, alone_alike, both-alike, regions-alike)

-- ---- the fields of subtags

after_language-fold : (subtags : List (List ℕ)) → after_language (map fold_text subtags) ≡ map fold_text (after_language subtags)
after_language-fold [] = refl
after_language-fold (s ∷ others) = rw (ap (λ c. c.extended) (classes-fold s), after_language-fold others) (cond-map (map fold_text) (is_extended s) (after_language others) (s ∷ others))

script_of-fold : (subtags : List (List ℕ)) → script_of (map fold_text subtags) ≡ fold_text (script_of subtags)
script_of-fold [] = refl
script_of-fold (s ∷ others) = rw (ap (λ c. c.script) (classes-fold s)) (cond-map fold_text (is_script s) s [])

after_script-fold : (subtags : List (List ℕ)) → after_script (map fold_text subtags) ≡ map fold_text (after_script subtags)
after_script-fold [] = refl
after_script-fold (s ∷ others) = rw (ap (λ c. c.script) (classes-fold s)) (cond-map (map fold_text) (is_script s) others (s ∷ others))

region_of-fold : (subtags : List (List ℕ)) → region_of (map fold_text subtags) ≡ fold_text (region_of subtags)
region_of-fold [] = refl
region_of-fold (s ∷ others) = rw (ap (λ c. c.region) (classes-fold s)) (cond-map fold_text (is_region s) s [])

known-fold : (unknown text : List ℕ) → known unknown (fold_text text) ≡ fold_text (known unknown text)
known-fold unknown text = rw (are_alike-right unknown (fold_text text) text (fold_text-twice text)) (cond-map fold_text (are_alike unknown text) [] text)

language_of-fold : (language : List ℕ) (subtags : List (List ℕ)) → language_of (fold_text language) (map fold_text subtags) ≡ fold_text (language_of language subtags)
language_of-fold language subtags =
    rw (is_extended_by-fold language subtags, last_language-fold [] subtags, known-fold (codes "und") language)
    (cond-map fold_text (is_extended_by language subtags) (last_language [] subtags) (known (codes "und") language))

region_after-fold : (language : List ℕ) (subtags : List (List ℕ)) → region_after (fold_text language) (map fold_text subtags) ≡ fold_text (region_after language subtags)
region_after-fold language subtags =
    grind (arith, common_steps, after_language-fold, after_script-fold, region_of-fold, marked_region-fold, or_other-fold)

abbrev fold_fields : Fields → Fields
fold_fields f = record { language = fold_text f.language; script = fold_text f.script; region = fold_text f.region }

pub counted-fold : (subtags : List (List ℕ)) → counted (map fold_text subtags) ≡ map fold_text (counted subtags)
counted-fold [] = refl
counted-fold (s ∷ others) = grind (arith, common_steps, is_star-fold, length-fold, cond-map, counted-fold others)

fields_of_subtags-fold : (subtags : List (List ℕ)) → fields_of_subtags (map fold_text subtags) ≡ option_map fold_fields (fields_of_subtags subtags)
fields_of_subtags-fold [] = refl
fields_of_subtags-fold (s ∷ others) =
    let n = counted others in
    let l = after_language n in
    rw (ap (λ c. c.primary) (classes-fold s)) (rw (counted-fold others, language_of-fold s n, region_after-fold s n, after_language-fold n)
    (rw (script_of-fold l, known-fold (codes "Zzzz") (script_of l), known-fold (codes "ZZ") (region_after s n))
    (cond-map (option_map fold_fields) (is_primary s) (Some _) None)))

text_fields-fold : (text : List ℕ) → text_fields (fold_text text) ≡ option_map fold_fields (text_fields text)
unfolding text_fields
text_fields-fold text = ap fields_of_subtags (subtags-fold text) ∙ fields_of_subtags-fold (subtags text)

-- ---- forms

current_text-alike : (a b : List ℕ) → Alike a b → Alike (current_text a) (current_text b)
current_text-alike a b alike =
    let same = preferred_tag-alike (base_text (basic_text a)) (base_text (basic_text b)) (base-alike (basic_text a) (basic_text b) (basic_text-alike a b alike)) in
    grind (arith, common_steps, same, hyphened-fold)

pub replaced_form-alike : (a b : List ℕ) → Alike a b → AlikeOptions (replaced_form a) (replaced_form b)
unfolding replaced_form
replaced_form-alike a b alike =
    let same : option_map fold_fields (text_fields (current_text a)) ≡ option_map fold_fields (text_fields (current_text b)) = (sym (text_fields-fold (current_text a)) ∙ ap text_fields (current_text-alike a b alike) ∙ text_fields-fold (current_text b)) in
    grind (arith, nat_tests, language-alike, are_alike-left (basic_text a) (basic_text b) (codes "und") (basic_text-alike a b alike))

pub matching_form-alike : (a b : List ℕ) → Alike a b → AlikeOptions (matching_form a) (matching_form b)
matching_form-alike a b alike =
    rw (form_completed a, form_completed b)
    (by_options (λ o p. AlikeOptions (option_map completed o) (option_map completed p)) tt completed-alike (replaced_form a) (replaced_form b) (replaced_form-alike a b alike))

pub distance-alike : (a b c d : List ℕ) → Alike a b → Alike c d → distance_of_texts a c ≡ distance_of_texts b d
unfolding distance_of_texts
distance-alike a b c d h k = forms-alike a b c d h k (matching_form a) (matching_form b) (matching_form c) (matching_form d) (matching_form-alike a b h) (matching_form-alike c d k)

pub ignores_case : (desired supported : List ℕ) (distance : ℕ) → distance ≡ distance_of_texts desired supported → DistanceIgnoresCase desired supported distance
ignores_case desired supported distance is = λ d s h k. sym (is ∙ distance-alike desired d supported s h k)

-- what is alike is at no distance
pub distance-none : (a b : List ℕ) → Alike a b → distance_of_texts a b ≡ 0
unfolding distance_of_texts language_distance script_distance region_distance
distance-none a b alike = grind (arith, nat_tests, are_alike-decides, matching_form-alike a b alike)

unlikely_form-alike : (f g : Fields) → AlikeFields f g → unlikely_form f ≡ unlikely_form g
unlikely_form-alike f g same = grind (arith, nat_tests, are_alike-right, suffices-alike f g (without_region f) (without_region g) same (record { language = same.language; script = same.script; region = refl }))

pub unlikely-alike : (a b : List ℕ) → Alike a b → unlikely a ≡ unlikely b
unfolding unlikely unlikely_of
unlikely-alike a b alike = by_options (λ f g. option_map_or unlikely_form f 2 ≡ option_map_or unlikely_form g 2) refl unlikely_form-alike _ _ (matching_form-alike a b alike)
