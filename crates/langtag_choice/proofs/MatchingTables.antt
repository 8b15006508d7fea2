-- The tables of language matching have the rows of the lists, by computation, and a rule is found by its number.
-- The languages that are near another, by the keys of the rules.
use Rattle.langtag_scan.proofs.Prelude.{◌≡◌, ℕ, ◌<◌, true, false, ◌==◌, Bool, ltb, List, [], ◌∷◌, length, max, get_or, map, refl, arith, rules, ◌&&◌, is_some, ◌+◌, ◌*◌, Option, sym, ◌≢◌, zero, suc, ◌-◌, ◌≤◌, length-drop, length-take, None, nat_tests, eqb_tells, and_parts, ltb-true, eq-eqb, ne_eqb, both_ways, cases_lt, or_parts, common_steps, list_all, false_from_ne_true, slice_range, option_map_or, get_or-drop, get_or-take, list_any_at, list_any_none}
use Rattle.std.proofs.lemmas.List.{get_or_default}
use Rattle.langtag_scan.specs.Grammar.{folded_number, fold_byte, are_alike, are_alphanumeric, are_letters, is_letter, is_digit}
use Rattle.langtag_scan.proofs.FoldedNumbers.{folded_number-tells}
use Rattle.langtag_text.specs.Numbers.{letter_number, climbs_from}
use Rattle.langtag_cldr.specs.Definitions.{Likely, language_alone, without_region, first_index, key_number}
use Rattle.langtag_text.specs.Fields.{Fields}
use Rattle.langtag_text.proofs.Elements.{list_all_get}
use Rattle.langtag_cldr.proofs.TableRows.{are_plain, is_numbered, key_number-tells}
use Rattle.langtag_cldr.proofs.RowLaws.{is_language, language-tells}
use Rattle.langtag_text.proofs.Alike.{alike_length}
use Rattle.langtag_choice.specs.Distance.{is_among, maghreb, en_us, americas, cnsar, language_distance, script_distance}
use Rattle.langtag_choice.specs.MatchingData as list
use Rattle.langtag_choice.specs.MatchingData.{language_rules, script_rules}
use Rattle.langtag_choice.specs.Pairs.{language_pair, script_pair}
use Rattle.langtag_choice.specs.Rules.{Rule, fits, distance_by}
use Rattle.langtag_choice.specs.Sets.{set_of}
use Rattle.langtag_choice.specs.declared.matching_tables.TheConstants as table
use Rattle.langtag_choice.specs.declared.region_distance.SetName.{SetName}
use Rattle.langtag_choice.specs.NearLanguages.{AreFar, HasNumber, is_among_numbers, rule_keys}
use Rattle.langtag_text.proofs.Letters.{letter_number-tells}
use Rattle.langtag_text.proofs.Rising.{above_first}

abbrev pub distance_of : Rule → ℕ
distance_of rule = rule.distance

-- where a number tells pairs apart, the first rule with it is the rule for the two
module _ (number : Rule → ℕ) (is_good : Rule → Bool) (key : ℕ) (desired supported : Fields)
    (tells : (rule : Rule) → is_good rule ≡ true → (key == number rule) ≡ fits desired supported rule) where
  pub distance_by_number :
      (otherwise : ℕ) (rules : List Rule) → list_all is_good rules ≡ true →
      option_map_or (λ i. get_or (map distance_of rules) i 0) (first_index (map number rules) key) otherwise ≡ distance_by rules otherwise desired supported
  distance_by_number otherwise [] all = refl
  distance_by_number otherwise (rule ∷ rules) all = grind (arith, nat_tests, and_parts, distance_by_number otherwise rules, tells rule)

-- ---- no rule has a language of more than three letters

abbrev pub is_short : Rule → Bool
is_short rule = ltb (length rule.desired.language) 4 && ltb (length rule.supported.language) 4

pub long_languages :
    (otherwise : ℕ) (rules : List Rule) (desired supported : Fields) → 3 < max (length desired.language) (length supported.language) → list_all is_short rules ≡ true →
    distance_by rules otherwise desired supported ≡ otherwise
long_languages otherwise [] desired supported long all = refl
long_languages otherwise (rule ∷ rules) desired supported long all =
    grind (arith, nat_tests, and_parts, alike_length rule.desired.language desired.language, alike_length rule.supported.language supported.language, long_languages otherwise rules desired supported long)

-- ---- a text among others

pub among_by_number :
    (words : List (List ℕ)) (text : List ℕ) → list_all are_alphanumeric words ≡ true → are_alphanumeric text ≡ true →
    is_some (first_index (map folded_number words) (folded_number text)) ≡ is_among words text
among_by_number [] text all plain = refl
among_by_number (word ∷ words) text all plain = grind (arith, common_steps, among_by_number words text, and_parts, folded_number-tells)

-- ---- two numbers as one

module _ (base : ℕ) where
  pub two-tell-abstract : (a b c d : ℕ) → (a * base + b ≡ c * base + d → a ≡ c) → (a * base + b == c * base + d) ≡ ((a == c) && (b == d))
  two-tell-abstract a b c d first = grind (arith, nat_tests, eqb_tells a c, eqb_tells b d, eq-eqb, ne_eqb)

languages-tell : (a b c d : ℕ) → b < 32768 → d < 32768 → (a * 32768 + b == c * 32768 + d) ≡ ((a == c) && (b == d))
languages-tell a b c d small little = two-tell-abstract 32768 a b c d (λ same. omega (arith, same, small, little))

scripts-tell : (a b c d : ℕ) → b < 4294967296 → d < 4294967296 → (a * 4294967296 + b == c * 4294967296 + d) ≡ ((a == c) && (b == d))
scripts-tell a b c d small little = two-tell-abstract 4294967296 a b c d (λ same. omega (arith, same, small, little))

-- ---- rules

-- a row with this left side
abbrev row_of : Fields → Likely
row_of f = record { from = f; to = f }

abbrev pub is_language_rule : Rule → Bool
is_language_rule rule = is_language (row_of rule.desired) && (is_language (row_of rule.supported) && ltb (letter_number rule.supported.language) 32768)

pub language_pair-tells :
    (desired supported : Fields) → are_letters desired.language ≡ true → are_letters supported.language ≡ true → letter_number supported.language < 32768 →
    (rule : Rule) → is_language_rule rule ≡ true →
    (language_pair desired supported == language_pair rule.desired rule.supported) ≡ fits (language_alone desired) (language_alone supported) rule
language_pair-tells desired supported dl sl small rule good =
    let desired_tells = language-tells desired.language dl (row_of rule.desired) in
    let supported_tells = language-tells supported.language sl (row_of rule.supported) in
    grind (arith, nat_tests, and_parts, ltb-true, languages-tell, desired_tells, supported_tells)

abbrev pub is_script_rule : Rule → Bool
is_script_rule rule = is_numbered (row_of rule.desired) && (is_numbered (row_of rule.supported) && ltb (key_number rule.supported) 4294967296)

pub script_pair-tells :
    (desired supported : Fields) → are_plain desired ≡ true → are_plain supported ≡ true → key_number supported < 4294967296 →
    (rule : Rule) → is_script_rule rule ≡ true → (script_pair desired supported == script_pair rule.desired rule.supported) ≡ fits desired supported rule
script_pair-tells desired supported dp sp small rule good =
    let desired_tells = key_number-tells desired (row_of rule.desired) dp in
    let supported_tells = key_number-tells supported (row_of rule.supported) sp in
    grind (arith, nat_tests, and_parts, ltb-true, scripts-tell, desired_tells, supported_tells)

-- ---- rules

-- rules, and the table of their numbers and distances
pub record AreRules (rules : List Rule) (number : Rule → ℕ) (is_good : Rule → Bool) (keys distances : List ℕ) (above : ℕ) : Type 0 where
  pub numbers : keys ≡ map number rules
  pub key_count : length keys ≡ length rules
  pub distances_are : distances ≡ map distance_of rules
  pub distance_count : length rules ≡ length distances
  pub between : list_all (λ n. ltb 0 n && ltb n above) distances ≡ true
  pub good : list_all is_good rules ≡ true
  pub short : list_all is_short rules ≡ true

abbrev pub language_rule_number : Rule → ℕ
language_rule_number rule = language_pair rule.desired rule.supported

pub language_rules_listed : AreRules list.language_rules language_rule_number is_language_rule table.LANGUAGE_RULE_KEYS table.LANGUAGE_RULE_DISTANCES 81
unfolding list.language_rules letter_number is_letter fold_byte
language_rules_listed = record { numbers = refl; key_count = refl; distances_are = refl; distance_count = refl; between = refl; good = refl; short = refl }

abbrev pub script_rule_number : Rule → ℕ
script_rule_number rule = script_pair rule.desired rule.supported

pub script_rules_listed : AreRules list.script_rules script_rule_number is_script_rule table.SCRIPT_RULE_KEYS table.SCRIPT_RULE_DISTANCES 51
unfolding list.script_rules key_number letter_number folded_number is_letter is_digit fold_byte
script_rules_listed = record { numbers = refl; key_count = refl; distances_are = refl; distance_count = refl; between = refl; good = refl; short = refl }

-- ---- sets of regions

-- the tables of the sets, as numbers
pub record AreSets : Type 0 where
  pub maghreb_inside : table.MAGHREB_INSIDE ≡ map folded_number maghreb.inside
  pub maghreb_partly : table.MAGHREB_PARTLY ≡ map folded_number maghreb.partly
  pub en_us_inside : table.EN_US_INSIDE ≡ map folded_number en_us.inside
  pub en_us_partly : table.EN_US_PARTLY ≡ map folded_number en_us.partly
  pub americas_inside : table.AMERICAS_INSIDE ≡ map folded_number americas.inside
  pub americas_partly : table.AMERICAS_PARTLY ≡ map folded_number americas.partly
  pub cnsar_inside : table.CNSAR_INSIDE ≡ map folded_number cnsar.inside
  pub cnsar_partly : table.CNSAR_PARTLY ≡ map folded_number cnsar.partly

pub sets_listed : AreSets
unfolding maghreb list.maghreb_inside list.maghreb_partly en_us list.en_us_inside list.en_us_partly americas list.americas_inside list.americas_partly cnsar list.cnsar_inside list.cnsar_partly folded_number fold_byte
sets_listed = record { maghreb_inside = refl; maghreb_partly = refl; en_us_inside = refl; en_us_partly = refl; americas_inside = refl; americas_partly = refl; cnsar_inside = refl; cnsar_partly = refl }

-- ---- regions of sets are of letters and digits

pub inside_plain : (set : SetName) → list_all are_alphanumeric (set_of set).inside ≡ true
unfolding maghreb list.maghreb_inside en_us list.en_us_inside americas list.americas_inside cnsar list.cnsar_inside is_letter is_digit fold_byte
inside_plain set = grind (arith, nat_tests)

pub partly_plain : (set : SetName) → list_all are_alphanumeric (set_of set).partly ≡ true
unfolding maghreb list.maghreb_partly en_us list.en_us_partly americas list.americas_partly cnsar list.cnsar_partly is_letter is_digit fold_byte
partly_plain set = grind (arith, nat_tests)

-- ---- the distance of two languages, and of two scripts

module _ (d s : Fields) where
  -- ---- languages

  pub language_long : are_alike d.language s.language ≡ false → 3 < max (length d.language) (length s.language) → 80 ≡ language_distance d s
  unfolding language_distance
  language_long other long =
      rw other (sym (long_languages 80 language_rules (language_alone d) (language_alone s) long language_rules_listed.short))

  pub language_found :
      (o : Option ℕ) (n : ℕ) (keys : List ℕ) (number : ℕ) → are_alike d.language s.language ≡ false → are_letters d.language ≡ true → are_letters s.language ≡ true →
      letter_number s.language < 32768 → keys ≡ map language_rule_number language_rules → number ≡ language_pair d s → o ≡ first_index keys number →
      n ≡ option_map_or (λ i. get_or (map distance_of language_rules) i 0) o 80 → n ≡ language_distance d s
  unfolding language_distance
  language_found o n keys number other dl sl small keys_are number_is is value =
      rw other
      (cc (distance_by_number language_rule_number is_language_rule (language_pair d s) (language_alone d) (language_alone s) (language_pair-tells d s dl sl small) 80 language_rules language_rules_listed.good))

  -- ---- scripts

  pub script_long : are_alike d.script s.script ≡ false → 3 < max (length d.language) (length s.language) → 50 ≡ script_distance d s
  unfolding script_distance
  script_long other long =
      rw other (sym (long_languages 50 script_rules (without_region d) (without_region s) long script_rules_listed.short))

  pub script_found :
      (o : Option ℕ) (n : ℕ) (keys : List ℕ) (number : ℕ) → are_alike d.script s.script ≡ false → are_plain (without_region d) ≡ true → are_plain (without_region s) ≡ true →
      key_number (without_region s) < 4294967296 → keys ≡ map script_rule_number script_rules → number ≡ script_pair (without_region d) (without_region s) → o ≡ first_index keys number →
      n ≡ option_map_or (λ i. get_or (map distance_of script_rules) i 0) o 50 → n ≡ script_distance d s
  unfolding script_distance
  script_found o n keys number other dp sp small keys_are number_is is value =
      rw other
      (cc (distance_by_number script_rule_number is_script_rule (script_pair (without_region d) (without_region s)) (without_region d) (without_region s)
      (script_pair-tells (without_region d) (without_region s) dp sp small) 50 script_rules script_rules_listed.good))

-- ---- the distance of a rule

between_at : (distances : List ℕ) (above i : ℕ) → list_all (λ n. ltb 0 n && ltb n above) distances ≡ true → i < length distances → (0 < get_or distances i 0) × (get_or distances i 0 < above)
between_at distances above i all inside = grind (arith, nat_tests, and_parts, list_all_get (λ n. ltb 0 n && ltb n above) distances i 0 all)

pub language_between : (i : ℕ) → i < length language_rules → (0 < get_or table.LANGUAGE_RULE_DISTANCES i 0) × (get_or table.LANGUAGE_RULE_DISTANCES i 0 < 81)
language_between i inside = between_at table.LANGUAGE_RULE_DISTANCES 81 i language_rules_listed.between (rw (sym language_rules_listed.distance_count) inside)

pub script_between : (i : ℕ) → i < length script_rules → (0 < get_or table.SCRIPT_RULE_DISTANCES i 0) × (get_or table.SCRIPT_RULE_DISTANCES i 0 < 51)
script_between i inside = between_at table.SCRIPT_RULE_DISTANCES 51 i script_rules_listed.between (rw (sym script_rules_listed.distance_count) inside)

absent_index : (keys : List ℕ) (key : ℕ) → is_among_numbers keys key ≡ false → first_index keys key ≡ None
absent_index [] key none = refl
absent_index (k ∷ keys) key none = grind (arith, nat_tests, or_parts (k == key) (is_among_numbers keys key), absent_index keys key)

far_known :
    (desired supported : ℕ) → supported < 32768 → (supported ≡ desired → ⊥) → is_among_numbers rule_keys (desired * 32768 + supported) ≡ false →
    (d s : Fields) → HasNumber desired d → HasNumber supported s → language_distance d s ≡ 80
far_known desired supported small other none d s has its =
    let apart : are_alike d.language s.language ≡ false = grind (arith, nat_tests, letter_number-tells d.language s.language) in
    let pair : desired * 32768 + supported ≡ language_pair d s = cc in
    sym (language_found d s None 80 rule_keys (language_pair d s) apart has.0 its.0 (omega arith) refl refl
    (sym (absent_index rule_keys (language_pair d s) (rw (← pair) none))) refl)

-- two languages that differ, for which there is no rule
pub far_without_rule :
    (desired supported : ℕ) → supported < 32768 → (supported ≡ desired → ⊥) → is_among_numbers rule_keys (desired * 32768 + supported) ≡ false → AreFar desired supported
far_without_rule desired supported small other none =
    grind (arith, nat_tests, common_steps, cases_lt, language_long, false_from_ne_true, alike_length, far_known)

-- a list that climbs does so strictly
pub climbs_at : (low : ℕ) (numbers : List ℕ) (i j : ℕ) → climbs_from low numbers ≡ true → i < j → j < length numbers → get_or numbers i 0 < get_or numbers j 0
climbs_at low [] i j climbs order inside = absurd (omega (arith, inside))
climbs_at low (n ∷ numbers) i zero climbs order inside = absurd (omega (arith, order))
climbs_at low (n ∷ numbers) zero (suc j) climbs order inside = above_first n numbers j (and_parts (ltb low n) (climbs_from n numbers) climbs).1 (omega (arith, inside))
climbs_at low (n ∷ numbers) (suc i) (suc j) climbs order inside = climbs_at n numbers i j (and_parts (ltb low n) (climbs_from n numbers) climbs).1 (omega (arith, order)) (omega (arith, inside))

absent_at : (numbers : List ℕ) (number : ℕ) → ((k : ℕ) → k < length numbers → get_or numbers k 0 ≢ number) → is_among_numbers numbers number ≡ false
absent_at numbers number none =
    list_any_none (λ n. n == number) numbers (λ k d inside. grind (arith, nat_tests, none k inside, get_or_default numbers k d 0))

part_at : (numbers : List ℕ) (start end k : ℕ) → start ≤ k → k < end → get_or (slice_range numbers start end) (k - start) 0 ≡ get_or numbers k 0
part_at numbers start end k from below = grind (arith, get_or-take, get_or-drop)

-- a number that is not in a part of a list is not in the list, if the part has all numbers from one limit to another
module _ (numbers : List ℕ) (low high start end : ℕ)
    (before_start : (k : ℕ) → k < start → get_or numbers k 0 < low) (from_end : (k : ℕ) → end ≤ k → k < length numbers → high ≤ get_or numbers k 0)
    (within : end ≤ length numbers) where
  pub absent_in_part : (number : ℕ) → low ≤ number → number < high → is_among_numbers (slice_range numbers start end) number ≡ false → is_among_numbers numbers number ≡ false
  absent_in_part number least most none = grind (arith, absent_at, cases_lt, both_ways, list_any_at, eq-eqb, part_at, length-take, length-drop)
