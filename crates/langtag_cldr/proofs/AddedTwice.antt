-- Likely subtags that are added again change nothing, since the rows have what it takes.
use Rattle.langtag_scan.proofs.Prelude.{◌≡◌, ◌%◌, true, false, Bool, cond, not, ◌≤◌, List, [], ◌∷◌, ℕ, Option, None, Some, is_some, refl, sym, ap, subst, ◌∙◌, arith, ◌&&◌, ◌||◌, codes, option_map, ◌⊎◌, rules, and_parts, nat_tests, list_all, is_none, option_map_or}
use Rattle.langtag_scan.specs.Grammar.{are_alike, Alike, fold_text, are_letters}
use Rattle.langtag_text.specs.Numbers.{letter_number}
use Rattle.langtag_cldr.specs.Definitions.{Likely, likely_for, looked_up, are_alike_fields, or_other, filled, known, known_fields, add_likely, language_alone, other_rows, likely_subtags, region_aliases, region_alone}
use Rattle.langtag_text.specs.Fields.{Fields}
use Rattle.langtag_cldr.specs.Rows.{of_language}
use Rattle.langtag_cldr.proofs.AlikeFields.{alike_fields, likely_for-alike, looked_up-alike, alone_alike}
use Rattle.langtag_text.proofs.Alike.{AlikeFields, alike_is}
use Rattle.langtag_cldr.proofs.LanguageBits.{row_at}
use Rattle.langtag_cldr.proofs.TableRows.{from_bit, has_bit, is_kept, is_language_row, is_other_row, is_settled, is_there, is_whole, rows_listed, stays_unknown}
use Rattle.langtag_cldr.proofs.RowLaws.{all_other, either, language_found}

-- ---- a language whose bit is set has a row

pub row_by_bit : (language : List ℕ) → has_bit language ≡ true → is_some (likely_for likely_subtags (of_language language)) ≡ true
unfolding has_bit
row_by_bit language h =
    let n = letter_number language in
    let (letters, from, to, set) : (are_letters language ≡ true) × (27 ≤ n) × (n ≤ 18278) × (from_bit n % 2 ≡ 1) = grind (arith, nat_tests, and_parts) in
    grind (arith, either (of_language language), language_found language n _ letters refl (sym (row_at n from to set)))

-- ---- a lookup without a language

pub looked_up_other : (f : Fields) → f.language ≡ [] → looked_up other_rows f ≡ looked_up likely_subtags f
looked_up_other f none = grind (arith, all_other)

-- ---- texts that are there

-- what holds either way
pub either_way : {P : Type 0} (b : Bool) → (b ≡ true → P) → (b ≡ false → P) → P
either_way b one other = grind arith

-- what holds of none and of some value
pub some_value : {A P : Type 0} (o : Option A) → (o ≡ None → P) → ((v : A) → o ≡ Some v → P) → P
some_value o none some = grind arith

pub absent : (a : List ℕ) → is_there a ≡ false → a ≡ []
absent a h = grind arith

pub there_alike : (a b : List ℕ) → Alike a b → is_there a ≡ is_there b
there_alike a b h = grind arith

pub or_other_there : (a b : List ℕ) → is_there a ≡ true → or_other a b ≡ a
or_other_there a b h = grind arith

pub or_other_absent : (a b : List ℕ) → is_there a ≡ false → or_other a b ≡ b
or_other_absent a b h = grind arith

pub there_other : (a b : List ℕ) → is_there b ≡ true → is_there (or_other a b) ≡ true
there_other a b h = grind arith

pub other_test : (unknown a b : List ℕ) → are_alike unknown a ≡ false → are_alike unknown b ≡ false → are_alike unknown (or_other a b) ≡ false
other_test unknown a b ha hb = grind arith

pub known_stays : (unknown a : List ℕ) → are_alike unknown a ≡ false → known unknown a ≡ a
known_stays unknown a h = ap (λ t. cond t [] a) h

-- ---- the row that was found

-- it passes a test that all rows pass
pub record FoundRow (holds : Likely → Bool) (key to : Fields) : Type 0 where
  pub row : Likely
  pub to_is : row.to ≡ to
  pub from_is : AlikeFields row.from key
  pub holds_of_it : holds row ≡ true

pub found_row : (rows : List Likely) (holds : Likely → Bool) (key to : Fields) → list_all holds rows ≡ true → likely_for rows key ≡ Some to → FoundRow holds key to
found_row [] holds key to all is = absurd cc
found_row (row ∷ rows) holds key to all is =
    let k = and_parts (holds row) (list_all holds rows) all in
    either_way (are_alike_fields row.from key)
    (λ same. record { row = row; to_is = let here : Some row.to ≡ Some to = sym (rw same refl) ∙ is in cc; from_is = alike_fields row.from key same; holds_of_it = k.0 })
    (λ other. found_row rows holds key to k.1 (sym (rw other refl) ∙ is))

-- the fields that were looked up have the language, and each of the others has it or has none
pub record IsKey (f key : Fields) : Type 0 where
  pub language : key.language ≡ f.language
  script : (key.script ≡ f.script) ⊎ (key.script ≡ [])
  region : (key.region ≡ f.region) ⊎ (key.region ≡ [])

pub record Found (f to : Fields) : Type 0 where
  pub key : Fields
  pub is_key : IsKey f key
  pub found : likely_for likely_subtags key ≡ Some to

pub found_of : (f to : Fields) → looked_up likely_subtags f ≡ Some to → Found f to
found_of f to is = grind arith

-- ---- fields that are all there stay, where something is looked up

whole_again :
    (m : Fields) → is_there m.language ≡ true → is_there m.script ≡ true → is_there m.region ≡ true → is_some (likely_for likely_subtags (language_alone m)) ≡ true →
    add_likely likely_subtags m ≡ Some m
whole_again m l s r alone = grind arith

-- ---- what a row says

record IsWhole (row : Likely) : Type 0 where
  script : is_there row.to.script ≡ true
  script_known : are_alike (codes "Zzzz") row.to.script ≡ false
  region : is_there row.to.region ≡ true
  region_known : are_alike (codes "ZZ") row.to.region ≡ false
  language_known : are_alike (codes "und") row.to.language ≡ false
  kept : is_kept row.from.language row.to.language ≡ true

whole_of : (row : Likely) → is_whole row ≡ true → IsWhole row
whole_of row h = grind (arith, and_parts)

-- of another row: its language, if it has one, has a row of its own
other_of :
    (row : Likely) → is_other_row row ≡ true →
    cond (is_there row.to.language) (is_some (likely_for likely_subtags (language_alone row.to))) (stays_unknown row) ≡ true
other_of row h = grind (arith, row_by_bit)

record StaysUnknown (row : Likely) : Type 0 where
  from_language : is_there row.from.language ≡ false
  script_there : is_there row.from.script ≡ true
  script : is_kept row.from.script row.to.script ≡ true
  region : is_kept row.from.region row.to.region ≡ true
  settles : option_map_or (λ v. not (is_there v.language)) (looked_up other_rows row.to) false ≡ true
  current : is_none (likely_for region_aliases (region_alone row.to)) ≡ true

unknown_of : (row : Likely) → stays_unknown row ≡ true → StaysUnknown row
unknown_of row h = grind arith

-- a field is alike that of the right side, which keeps the left side, if it is on the left side where it is written
field_alike :
    (field to from key : List ℕ) → (key ≡ field) ⊎ (key ≡ []) → Alike from key → is_kept from to ≡ true → (is_there field ≡ true → is_there from ≡ true) →
    Alike (or_other field to) to
field_alike field to from key is same kept there = grind (arith, alike_is from to)

pub not_first : (a b : List ℕ) → is_there (or_other a b) ≡ false → is_there a ≡ false
not_first a b h = grind arith

and_false-turned : (a b : Bool) → (a && b) ≡ false → b ≡ true → a ≡ false
and_false-turned a b h it = grind arith

-- what is true of a right side that was found for fields
pub record RowFacts (f to : Fields) : Type 0 where
  -- the language has a row of its own
  pub alone : is_there (filled f to).language ≡ true → is_some (likely_for likely_subtags (language_alone (filled f to))) ≡ true
  -- if no language is known, the script is written, and the likely region is not deprecated
  pub unknown : is_there (filled f to).language ≡ false → (is_there f.script ≡ true) × (is_none (likely_for region_aliases (region_alone to)) ≡ true)
  pub script : is_there to.script ≡ true
  pub script_known : are_alike (codes "Zzzz") to.script ≡ false
  pub region : is_there to.region ≡ true
  pub region_known : are_alike (codes "ZZ") to.region ≡ false

-- ---- fields, the row that was found for them, and what it makes of them

module _ (f : Fields) (row : Likely) (key : Fields) (is_key : IsKey f key) (from_is : AlikeFields row.from key) (whole : IsWhole row)
    (kind : (is_language_row row || is_other_row row) ≡ true) (found : likely_for likely_subtags key ≡ Some row.to)
    (looked : looked_up likely_subtags f ≡ Some row.to) (script_known : are_alike (codes "Zzzz") f.script ≡ false) (region_known : are_alike (codes "ZZ") f.region ≡ false) where
  abbrev most : Fields
  most = filled f row.to

  -- the row of the language alone is found for each language that is alike
  alone_by : (language : List ℕ) → Alike row.from.language language → is_language_row row ≡ true → likely_for likely_subtags (record { language = language; script = []; region = [] }) ≡ Some row.to
  alone_by language same is = grind (arith, nat_tests, absent, likely_for-alike)

  alone_other : is_other_row row ≡ true → is_there row.to.language ≡ true → Alike row.to.language most.language → is_some (likely_for likely_subtags (language_alone most)) ≡ true
  alone_other other there same =
      ap is_some (sym (likely_for-alike likely_subtags (language_alone row.to) (language_alone most) (alone_alike row.to most same)))
      ∙ sym (ap (λ b. cond b (is_some (likely_for likely_subtags (language_alone row.to))) (stays_unknown row)) there) ∙ other_of row other

  kept_language : is_there row.from.language ≡ true → Alike row.from.language row.to.language
  kept_language there = grind (arith, nat_tests, and_parts, alike_is)

  alone_found : is_there most.language ≡ true → is_some (likely_for likely_subtags (language_alone most)) ≡ true
  alone_found there = grind (arith, nat_tests, kept_language, alone_by most.language, alone_other, or_other_there, or_other_absent, there_alike, kind)

  script_not : are_alike (codes "Zzzz") most.script ≡ false
  script_not = other_test (codes "Zzzz") f.script row.to.script script_known whole.script_known

  -- ---- no language is known

  unknown_row : is_there f.language ≡ false → is_there row.to.language ≡ false → StaysUnknown row
  unknown_row f_none to_none = search (rules, unknown_of)

  unknown_most : is_there most.language ≡ false → (is_there f.language ≡ false) × (is_there row.to.language ≡ false)
  unknown_most none = grind (arith, not_first f.language row.to.language, or_other_absent)

  -- the script is written
  script_written : is_there most.language ≡ false → is_there f.script ≡ true
  script_written none = grind (arith, nat_tests, unknown_most, unknown_row, there_alike)

  unknown_again : is_there most.language ≡ false → add_likely likely_subtags most ≡ Some most
  unknown_again none = either_way (is_there f.script && is_there f.region) written unwritten
    where
      f_none : is_there f.language ≡ false
      f_none = (unknown_most none).0

      to_none : is_there row.to.language ≡ false
      to_none = (unknown_most none).1

      unknown : StaysUnknown row
      unknown = unknown_row f_none to_none

      written : (is_there f.script && is_there f.region) ≡ true → add_likely likely_subtags most ≡ Some most
      written both = grind arith

      unwritten : (is_there f.script && is_there f.region) ≡ false → add_likely likely_subtags most ≡ Some most
      unwritten one =
          let script_from : is_there f.script ≡ true → is_there row.from.script ≡ true = λ there. unknown.script_there in
          let region_from : is_there f.region ≡ true → is_there row.from.region ≡ true =
          λ there. absurd (cc (script_written none, and_false-turned (is_there f.script) (is_there f.region) one there)) in
          let settles =
          ap (λ o. option_map_or (λ v. not (is_there v.language)) o false) (sym (looked_up_other row.to (absent row.to.language to_none))) ∙ unknown.settles in
          let same : AlikeFields most row.to = record {
            language = ap fold_text (or_other_absent f.language row.to.language f_none);
            script = field_alike f.script row.to.script row.from.script key.script is_key.script from_is.script unknown.script script_from;
            region = field_alike f.region row.to.region row.from.region key.region is_key.region from_is.region unknown.region region_from;
          } in
          ap (option_map (filled most)) (looked_up-alike most row.to same) ∙ by_row (looked_up likely_subtags row.to) settles
        where
          by_row : (o : Option Fields) → option_map_or (λ v. not (is_there v.language)) o false ≡ true → option_map (filled most) o ≡ Some most
          by_row o h = grind arith

  region_not : are_alike (codes "ZZ") most.region ≡ false
  region_not = other_test (codes "ZZ") f.region row.to.region region_known whole.region_known

  added_again : add_likely likely_subtags (known_fields most) ≡ Some most
  added_again = grind (arith, nat_tests, most, known_stays, script_not, region_not, whole_again most, there_other, alone_found, unknown_again)

  row_facts : RowFacts f row.to
  row_facts = grind (arith, nat_tests, alone_found, unknown_most, script_written, unknown_row)

-- ---- whatever is added to fields that are known

-- fields without `Zzzz` and `ZZ`
pub record AreKnown (f : Fields) : Type 0 where
  pub script : are_alike (codes "Zzzz") f.script ≡ false
  pub region : are_alike (codes "ZZ") f.region ≡ false

-- what was added: a right side, whose language is not `und`
pub record IsAdded (f m : Fields) : Type 0 where
  pub to : Fields
  pub filled_is : filled f to ≡ m
  pub language : are_alike (codes "und") to.language ≡ false
  pub again : add_likely likely_subtags (known_fields m) ≡ Some m
  pub facts : RowFacts f to

pub added : (f m : Fields) → AreKnown f → add_likely likely_subtags f ≡ Some m → IsAdded f m
added f m known is = some_value (looked_up likely_subtags f) (λ none. absurd (let no : None ≡ Some m = sym (ap (option_map (filled f)) none) ∙ is in cc)) (λ to looked.
    let found = found_of f to looked in
    let r = found_row likely_subtags is_settled found.key to rows_listed.settled found.found in
    let parts = and_parts (is_whole r.row) (is_language_row r.row || is_other_row r.row) r.holds_of_it in
    let whole = whole_of r.row parts.0 in
    let some : Some (filled f to) ≡ Some m = sym (ap (option_map (filled f)) looked) ∙ is in
    let same : filled f to ≡ m = cc in
    let again = added_again f r.row found.key found.is_key r.from_is whole parts.1 (found.found ∙ ap Some (sym r.to_is)) (looked ∙ ap Some (sym r.to_is)) known.script known.region in
    let made : filled f r.row.to ≡ m = ap (filled f) r.to_is ∙ same in
    record {
      to = to;
      filled_is = same;
      language = sym (ap (λ v. are_alike (codes "und") v.language) r.to_is) ∙ whole.language_known;
      again = ap (λ n. add_likely likely_subtags (known_fields n)) (sym made) ∙ again ∙ ap Some made;
      facts = subst (RowFacts f) r.to_is (row_facts f r.row found.key found.is_key r.from_is whole parts.1 (found.found ∙ ap Some (sym r.to_is)) (looked ∙ ap Some (sym r.to_is)) known.script known.region);
    })
