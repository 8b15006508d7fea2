-- The languages of CLDR's parents are written in Latin letters in each region, and a parent in a row in the script of its tag: by computation.
use Rattle.langtag_scan.proofs.Prelude.{◌≡◌, ℕ, ◌<◌, true, false, Bool, cond, List, [], ◌∷◌, length, codes, Option, None, Some, IfSome, MatchOption, refl, sym, ap, ◌∙◌, arith, ◌&&◌, ◌||◌, not, option_map, option_map_or, list_all, list_any, and_parts}
use Rattle.langtag_scan.specs.Grammar.{Alike, are_alike, fold_byte}
use Rattle.langtag_scan.proofs.Laws.{length-fold}
use Rattle.langtag_text.specs.Fields.{Fields}
use Rattle.langtag_text.proofs.Alike.{AlikeFields, alike_is}
use Rattle.langtag_cldr.specs.Definitions.{Likely, language_rows, likely_for, likely_subtags, looked_up, other_rows}
use Rattle.langtag_cldr.proofs.AddedTwice.{either_way, found_row, some_value}
use Rattle.langtag_cldr.proofs.AlikeFields.{likely_for-alike}
use Rattle.langtag_cldr.proofs.RowLaws.{all_other, either}
use Rattle.langtag_cldr.proofs.TableRows.{is_there}
use Rattle.langtag_parent.specs.Parent.{is_empty, likely_script}
use Rattle.langtag_parent.specs.ParentLaws.{IsWrittenAs}
use Rattle.langtag_parent.specs.ParentLocales.{parent_locales}

abbrev latin : List ℕ
latin = codes "Latn"

abbrev latin_languages : List (List ℕ)
latin_languages = codes "en" ∷ codes "es" ∷ codes "fr" ∷ codes "ht" ∷ codes "nb" ∷ codes "nn" ∷ codes "no" ∷ codes "pt" ∷ []

abbrev is_one : List ℕ → Bool
is_one language = list_any (λ one. are_alike one language) latin_languages

abbrev in_region : List ℕ → List ℕ → Fields
in_region p region = record { language = p; script = []; region = region }

-- ---- no row of these languages has a region and no script

abbrev is_elsewhere : Likely → Bool
is_elsewhere row = is_there row.from.script || (not (is_there row.from.region) || not (is_one row.from.language))

all_elsewhere : list_all is_elsewhere other_rows ≡ true
unfolding other_rows fold_byte
all_elsewhere = refl

region_none : (p region : List ℕ) → is_one p ≡ true → 0 < length region → likely_for other_rows (in_region p region) ≡ None
region_none p region one there =
    some_value (likely_for other_rows (in_region p region)) (λ none. none) (λ to is.
    let it = found_row other_rows is_elsewhere (in_region p region) to all_elsewhere is in
    absurd (grind (arith, it, one, length-fold)))

-- ---- each of them is written in Latin letters

abbrev is_latin_row : Option Fields → Bool
is_latin_row found = option_map_or (λ f. are_alike f.script latin) found false

all_latin : list_all (λ language. is_latin_row (likely_for language_rows (in_region language []))) latin_languages ≡ true
unfolding language_rows fold_byte
all_latin = refl

latin_at :
    (p : List ℕ) (list : List (List ℕ)) → list_all (λ language. is_latin_row (likely_for language_rows (in_region language []))) list ≡ true →
    list_any (λ one. are_alike one p) list ≡ true → is_latin_row (likely_for language_rows (in_region p [])) ≡ true
latin_at p [] all any = absurd cc
latin_at p (language ∷ list) all any =
    let alike : are_alike language p ≡ true → AlikeFields (in_region language []) (in_region p []) = λ same. record { language = alike_is language p same; script = refl; region = refl } in
    grind (arith, and_parts, latin_at p list, likely_for-alike language_rows (in_region language []) (in_region p []))

latin_alone : (p : List ℕ) → is_one p ≡ true → is_latin_row (likely_for likely_subtags (in_region p [])) ≡ true
latin_alone p one = ap is_latin_row (either (in_region p [])) ∙ grind (arith, latin_at p latin_languages all_latin one)

likely_alone : (p region : List ℕ) → is_one p ≡ true → looked_up likely_subtags (in_region p region) ≡ likely_for likely_subtags (in_region p [])
likely_alone p [] one = grind arith
likely_alone p (b ∷ region) one =
    let there : 0 < length (b ∷ region) = omega arith in
    let none = sym (all_other (in_region p (b ∷ region)) (λ _ none. omega (arith, none))) ∙ region_none p (b ∷ region) one there in
    grind (arith, none)

some_latin : (o : Option Fields) → is_latin_row o ≡ true → (own : List ℕ) × (option_map (λ f. f.script) o ≡ Some own) × Alike own latin
some_latin None h = absurd cc
some_latin (Some f) h = (f.script, refl, alike_is f.script latin h)

-- ---- fields that are written in Latin letters

abbrev is_latin : Fields → Bool
is_latin f = cond (is_empty f.script) (is_one f.language) (are_alike f.script latin)

latin_in : (script language region : List ℕ) → cond (is_empty script) (is_one language) (are_alike script latin) ≡ true →
    (own : List ℕ) × (cond (is_empty script) (likely_script language region) (Some script) ≡ Some own) × Alike own latin
latin_in [] language region h =
    let (own, is, alike) = some_latin (likely_for likely_subtags (in_region language [])) (latin_alone language h) in
    (own, ap (option_map (λ f. f.script)) (likely_alone language region h) ∙ is, alike)
latin_in (b ∷ script) language region h = (b ∷ script, refl, alike_is (b ∷ script) latin h)

both_latin : (f g : Fields) → is_latin f ≡ true → is_latin g ≡ true → IsWrittenAs f g
both_latin f g first second =
    grind (arith, latin_in f.script f.language f.region first, latin_in g.script g.language g.region second)

-- ---- the rows

abbrev have_script : List ℕ → List ℕ → Bool
have_script a b = not (is_empty a) && (not (is_empty b) && are_alike a b)

abbrev pub is_written : Likely → Bool
is_written row = not (is_there row.to.language) || ((is_latin row.from && is_latin row.to) || have_script row.from.script row.to.script)

pub all_written : list_all is_written parent_locales ≡ true
unfolding parent_locales fold_byte
all_written = refl

scripts_alike : (a b : List ℕ) (o p : Option (List ℕ)) → have_script a b ≡ true →
    IfSome (cond (is_empty b) p (Some b)) (λ script. MatchOption (cond (is_empty a) o (Some a)) ⊥ (λ own. Alike own script))
scripts_alike a b o p h = grind (arith, alike_is a b)

pub row_written : (row : Likely) → is_there row.to.language ≡ true → is_written row ≡ true → IsWrittenAs row.from row.to
row_written row there h =
    either_way (is_latin row.from && is_latin row.to)
    (λ both. let k = and_parts (is_latin row.from) (is_latin row.to) both in both_latin row.from row.to k.0 k.1)
    (λ other. scripts_alike row.from.script row.to.script _ _ (cc (ap (λ b. b || have_script row.from.script row.to.script) other)))
