-- Likely subtags that are added again change nothing, also where deprecated subtags are replaced before the lookup. A
-- language that has a row is not deprecated.
use Rattle.langtag_scan.proofs.Prelude.{◌≡◌, ℕ, ◌&&◌, true, false, Bool, ltb, not, List, [], length, Option, None, Some, is_some, option_map, sym, ap, subst, ◌∙◌, arith, codes, and_parts, nat_tests, nil_from_length, list_all, is_none, option_map_or}
use Rattle.langtag_scan.specs.Grammar.{Alike, are_alike, fold_byte, are_alike-decides, are_letters, is_letter}
use Rattle.langtag_scan.proofs.CaseLaw.{all-fold, is_letter-fold}
use Rattle.langtag_text.specs.Fields.{Fields}
use Rattle.langtag_text.specs.Numbers.{letter_number}
use Rattle.langtag_text.proofs.Letters.{letter_number-tells}
use Rattle.langtag_cldr.specs.Definitions.{language_aliases, region_aliases, Likely, add_likely, filled, known_fields, language_alone, likely_for, likely_subtags, language_replaced, region_alone, region_replaced, with_language_from, with_region_from, add_likely_subtags, canonical_fields}
use Rattle.langtag_cldr.proofs.AddedTwice.{AreKnown, some_value, IsAdded, absent, added, either_way, found_of, found_row, known_stays, not_first, or_other_absent, or_other_there, other_test, there_alike, there_other}
use Rattle.langtag_cldr.proofs.RowLaws.{aliases_listed}
use Rattle.langtag_cldr.proofs.TableRows.{has_bit, is_there, rows_listed}

-- ---- the bit of a language does not change with the case of letters

letters-alike : (a b : List ℕ) → Alike a b → are_letters a ≡ are_letters b
letters-alike a b same = sym (all-fold is_letter is_letter-fold a) ∙ ap (list_all is_letter) same ∙ all-fold is_letter is_letter-fold b

number-alike : (a b : List ℕ) → Alike a b → are_letters a ≡ true → letter_number a ≡ letter_number b
number-alike a b same letters = grind (arith, nat_tests, letter_number-tells a b, letters-alike a b same, are_alike-decides a b)

bit-alike : (a b : List ℕ) → Alike a b → has_bit a ≡ true → has_bit b ≡ true
unfolding has_bit
bit-alike a b same bit = rw (← letters-alike a b same, ← number-alike a b same (and_parts (are_letters a) _ bit).0) bit

-- ---- a language that has a row is not deprecated

listed_bit : (key to : Fields) → likely_for likely_subtags key ≡ Some to → is_there key.language ≡ true → has_bit key.language ≡ true
listed_bit key to is there =
    let left = found_row likely_subtags _ key to rows_listed.listed is in
    let bit = bit-alike left.row.from.language key.language left.from_is.language in
    grind (arith, nat_tests, there_alike _ _ left.from_is.language, bit, left.holds_of_it)

listed_current : (f to : Fields) → likely_for likely_subtags f ≡ Some to → is_there f.language ≡ true → likely_for language_aliases (language_alone f) ≡ None
listed_current f to is there = some_value (likely_for language_aliases (language_alone f)) (λ none. none) (λ v found.
    let left = found_row language_aliases (λ row. not (has_bit row.from.language)) (language_alone f) v aliases_listed.unlisted found in
    let bit = bit-alike f.language left.row.from.language (sym left.from_is.language) (listed_bit f to is there) in
    absurd (let no : not true ≡ true = sym (ap not bit) ∙ left.holds_of_it in cc))

-- ---- the empty field is not deprecated

no_language : (f : Fields) → f.language ≡ [] → likely_for language_aliases (language_alone f) ≡ None
unfolding language_aliases fold_byte
no_language f none = ap (λ l. likely_for language_aliases (record { language = l; script = []; region = [] })) none

pub no_region : (f : Fields) → length f.region ≡ 0 → likely_for region_aliases (region_alone f) ≡ None
unfolding region_aliases fold_byte
no_region f none =
    ap (λ r. likely_for region_aliases (record { language = []; script = []; region = r })) (nil_from_length f.region none)

-- ---- fields without deprecated subtags

language_stays : (f : Fields) → likely_for language_aliases (language_alone f) ≡ None → language_replaced f ≡ f
unfolding language_replaced
language_stays f none = ap (λ o. option_map_or (with_language_from f) o f) none

region_stays : (f : Fields) → likely_for region_aliases (region_alone f) ≡ None → region_replaced f ≡ f
unfolding region_replaced
region_stays f none = ap (λ o. option_map_or (with_region_from f) o f) none

canonical_stays : (f : Fields) → likely_for language_aliases (language_alone f) ≡ None → likely_for region_aliases (region_alone f) ≡ None → canonical_fields f ≡ f
canonical_stays f language region = ap region_replaced (language_stays f language) ∙ region_stays f region

-- ---- likely subtags that are added are those of the canonical fields

filled-twice : (f v : Fields) → filled f (filled f v) ≡ filled f v
filled-twice f v = grind (arith, nat_tests)

canonical_added : (f m : Fields) → canonical_fields f ≡ f → add_likely likely_subtags f ≡ Some m → add_likely_subtags f ≡ Some m
unfolding add_likely_subtags
canonical_added f m stays is = rw stays (grind (arith, filled-twice))

pub none_is : {A : Type 0} (o : Option A) → is_none o ≡ true → o ≡ None
none_is o h = grind (arith, nat_tests)

pub current_added : (f m : Fields) → is_none (likely_for region_aliases (region_alone f)) ≡ true → add_likely likely_subtags f ≡ Some m → add_likely_subtags f ≡ Some m
current_added f m region is = grind (arith, nat_tests, canonical_added, canonical_stays, found_of, listed_current, no_language, absent, none_is)

-- ---- what replaces a language, or a region

right_side : (rows : List Likely) (holds : Fields → Bool) (key to : Fields) → list_all (λ row. holds row.to) rows ≡ true → likely_for rows key ≡ Some to → holds to ≡ true
right_side rows holds key to all is = let it = found_row rows (λ row. holds row.to) key to all is in subst (λ t. holds t ≡ true) it.to_is it.holds_of_it

is_alias_target : Fields → Bool
is_alias_target to = not (are_alike (codes "Zzzz") to.script) && not (are_alike (codes "ZZ") to.region)

leads : Fields → Bool
leads to = ltb 0 (length to.language)

language_of : List ℕ → Option Fields → List ℕ
language_of language o = option_map_or (λ to. to.language) o language

region_keeps : (f : Fields) → ((region_replaced f).language ≡ f.language) × ((region_replaced f).script ≡ f.script)
unfolding region_replaced
region_keeps f = grind arith

canonical_language : (f : Fields) → (canonical_fields f).language ≡ language_of f.language (likely_for language_aliases (language_alone f))
unfolding language_replaced language_of
canonical_language f = grind (arith, nat_tests, region_keeps)

alias_there : (f to : Fields) → likely_for language_aliases (language_alone f) ≡ Some to → is_there to.language ≡ true
unfolding leads
alias_there f to found = grind (arith, nat_tests, right_side language_aliases leads _ to aliases_listed.lead found)

canonical_there : (f : Fields) → is_there f.language ≡ true → is_there (canonical_fields f).language ≡ true
unfolding language_of
canonical_there f there = ap is_there (canonical_language f) ∙ grind (arith, alias_there f)

canonical_none : (f : Fields) → f.language ≡ [] → (canonical_fields f ≡ region_replaced f)
canonical_none f none = ap region_replaced (language_stays f (no_language f none))

-- ---- no field becomes unknown

canonical-known : (f : Fields) → AreKnown f → AreKnown (canonical_fields f)
unfolding language_replaced region_replaced is_alias_target
canonical-known f are =
    let known = right_side language_aliases is_alias_target (language_alone f) in
    grind (arith, nat_tests, known, aliases_listed.known, other_test, and_parts)

-- ---- what is added

module _ (f w : Fields) (are : AreKnown f) (is : add_likely likely_subtags (canonical_fields f) ≡ Some w) where
  abbrev c : Fields
  c = canonical_fields f

  abbrev m : Fields
  m = filled f w

  abbrev plain : IsAdded c w
  plain = added c w (canonical-known f are) is

  abbrev v : Fields
  v = plain.to

  -- ---- the fields that are made

  script_there : is_there m.script ≡ true
  script_there = there_other f.script w.script (ap (λ x. is_there x.script) (sym plain.filled_is) ∙ there_other c.script v.script plain.facts.script)

  region_there : is_there m.region ≡ true
  region_there = there_other f.region w.region (ap (λ x. is_there x.region) (sym plain.filled_is) ∙ there_other c.region v.region plain.facts.region)

  known_same : known_fields m ≡ m
  known_same = grind (arith, nat_tests, known_stays, other_test, canonical-known f are, plain.filled_is, plain.facts)

  -- ---- a language is known

  alone : is_there w.language ≡ true → is_some (likely_for likely_subtags (language_alone w)) ≡ true
  alone = subst (λ x. is_there x.language ≡ true → is_some (likely_for likely_subtags (language_alone x)) ≡ true) plain.filled_is plain.facts.alone

  -- the canonical fields of what is made have the language of those that were looked up
  language_again : is_there m.language ≡ true → (canonical_fields m).language ≡ w.language
  unfolding language_of
  language_again there = grind (arith, nat_tests, or_other_there, canonical_there, or_other_absent, listed_current, alone, canonical_language, language_of)

  known_again : is_there m.language ≡ true → add_likely_subtags m ≡ Some m
  unfolding add_likely_subtags
  known_again there = grind (arith, nat_tests, language_again, alone, canonical_there, or_other_there, script_there, region_there)

  -- ---- no language is known

  unknown_again : is_there m.language ≡ false → add_likely_subtags f ≡ Some m → add_likely_subtags m ≡ Some m
  unknown_again none made = either_way (is_there f.region) written unwritten
    where
      f_none : is_there f.language ≡ false
      f_none = not_first f.language w.language none

      w_none : is_there w.language ≡ false
      w_none = sym (ap is_there (or_other_absent f.language w.language f_none)) ∙ none

      canonical_is : c ≡ region_replaced f
      canonical_is = canonical_none f (absent f.language f_none)

      facts : (is_there c.script ≡ true) × (is_none (likely_for region_aliases (region_alone v)) ≡ true)
      facts = plain.facts.unknown (ap (λ x. is_there x.language) plain.filled_is ∙ w_none)

      script_written : is_there f.script ≡ true
      script_written = ap is_there (sym (ap (λ x. x.script) canonical_is ∙ (region_keeps f).1)) ∙ facts.0

      written : is_there f.region ≡ true → add_likely_subtags m ≡ Some m
      written there = grind (arith, absent, or_other_there, script_written)

      unwritten : is_there f.region ≡ false → add_likely_subtags m ≡ Some m
      unwritten absent_region =
          grind (arith, nat_tests, canonical_is, region_stays, no_region, absent, filled-twice, or_other_absent, is_there, none_is, facts, canonical_added, canonical_stays, no_language, known_same)

  made_again : add_likely_subtags f ≡ Some m → add_likely_subtags (known_fields m) ≡ Some m
  made_again made = ap add_likely_subtags known_same ∙ either_way (is_there m.language) known_again (λ none. unknown_again none made)

  -- what is added, with the language of the row
  filled_is : filled f (record { language = v.language; script = w.script; region = w.region }) ≡ m
  filled_is = grind (arith, nat_tests, either_way, or_other_there, canonical_none, absent, region_keeps, or_other_absent)

-- what was added: fields whose language is not `und`
pub record IsAddedTo (f m : Fields) : Type 0 where
  pub to : Fields
  pub filled_is : filled f to ≡ m
  pub language : are_alike (codes "und") to.language ≡ false
  pub again : add_likely_subtags (known_fields m) ≡ Some m

pub likely_added : (f m : Fields) → AreKnown f → add_likely_subtags f ≡ Some m → IsAddedTo f m
unfolding add_likely_subtags
likely_added f m are made = some_value (add_likely likely_subtags (canonical_fields f)) (λ none. absurd (let no : None ≡ Some m = sym (ap (option_map (filled f)) none) ∙ made in cc)) (λ w is.
    let some : Some (filled f w) ≡ Some m = sym (ap (option_map (filled f)) is) ∙ made in
    let same : filled f w ≡ m = cc in
    let it : IsAddedTo f (filled f w) = record {
      to = record { language = (plain f w are is).to.language; script = w.script; region = w.region };
      filled_is = filled_is f w are is;
      language = (plain f w are is).language;
      again = made_again f w are is (made ∙ ap Some (sym same));
    } in
    subst (IsAddedTo f) same it)
