-- How wide groups of regions are, from their tables.
use Rattle.langtag_scan.proofs.Prelude.{◌≡◌, ℕ, ◌<◌, ◌≤◌, ◌+◌, ◌*◌, drop, or_parts, Bool, true, false, List, [], ◌∷◌, length, get_or, map, Option, None, Some, option_map_or, refl, sym, subst, ap, ◌∙◌, arith, ◌&&◌, nat_tests, and_parts, list_all, is_some, get_or-map, length-map}
use Rattle.std.specs.Bool.{nat_le}
use Rattle.langtag_scan.specs.Grammar.{Alike, are_alphanumeric, fold_byte, folded_number, is_letter, is_digit}
use Rattle.langtag_scan.proofs.FoldedNumbers.{fold_digits, folded_number-tells}
use Rattle.langtag_text.specs.Fields.{Fields}
use Rattle.langtag_text.specs.Numbers.{climbs_from}
use Rattle.langtag_text.proofs.Alike.{are_alike-right}
use Rattle.langtag_text.proofs.Elements.{list_all_get}
use Rattle.langtag_cldr.specs.Definitions.{first_index}
use Rattle.langtag_cldr.proofs.AlikeFields.{AlikeOptions, by_options}
use Rattle.langtag_choice.specs.Distance.{is_among}
use Rattle.langtag_choice.specs.MatchingData.{region_groups}
use Rattle.langtag_choice.specs.RegionGroup.{RegionGroup, no_group}
use Rattle.langtag_choice.specs.RegionWidth.{IsGroupIndex, is_letter_group, no_group_width, region_in, region_width, width_among, width_of, width_of_forms, width_unlisted}
use Rattle.langtag_choice.specs.declared.matching_tables.TheConstants.{GROUP_KEYS, GROUP_REGIONS}
use Rattle.langtag_choice.proofs.AlikeDistances.{among-alike, matching_form-alike}
use Rattle.langtag_choice.proofs.MatchingTables.{among_by_number}

-- ---- the tables

abbrev code_number : RegionGroup → ℕ
code_number group = folded_number group.code

abbrev region_numbers : RegionGroup → List ℕ
region_numbers group = map folded_number group.regions

abbrev is_plain_group : RegionGroup → Bool
is_plain_group group = are_alphanumeric group.code && list_all are_alphanumeric group.regions

-- the tables of the groups, as numbers
pub record AreGroups : Type 0 where
  pub codes_are : GROUP_KEYS ≡ map code_number region_groups
  pub codes_climb : climbs_from 0 GROUP_KEYS ≡ true
  pub regions_are : map (λ regions. regions.now) GROUP_REGIONS ≡ map region_numbers region_groups
  pub regions_climb : list_all (climbs_from 0) (map region_numbers region_groups) ≡ true
  pub count : length GROUP_REGIONS ≡ length region_groups
  pub plain : list_all is_plain_group region_groups ≡ true

pub groups_listed : AreGroups
unfolding region_groups folded_number is_letter is_digit fold_byte
groups_listed = record { codes_are = refl; codes_climb = refl; regions_are = refl; regions_climb = refl; count = refl; plain = refl }

-- ---- the group with a code

found_among :
    (groups : List RegionGroup) (region code : List ℕ) → list_all is_plain_group groups ≡ true → are_alphanumeric code ≡ true →
    option_map_or (λ i. width_of (get_or groups i no_group) region) (first_index (map code_number groups) (folded_number code)) (width_unlisted code) ≡ width_among groups region code
found_among [] region code all plain = refl
found_among (group ∷ groups) region code all plain = grind (arith, nat_tests, and_parts, found_among groups region code, folded_number-tells group.code code)

pub group_found :
    (o : Option ℕ) (keys : List ℕ) (code : List ℕ) → are_alphanumeric code ≡ true → keys ≡ map code_number region_groups → o ≡ first_index keys (folded_number code) →
    ((i : ℕ) → o ≡ Some i → i < length keys) → IsGroupIndex code o
group_found None keys code plain keys_are is within = λ region. cc (found_among region_groups region code groups_listed.plain plain)
group_found (Some i) keys code plain keys_are is within =
    (subst (λ n. i < n) (ap length keys_are ∙ length-map region_groups code_number) (within i refl), λ region. cc (found_among region_groups region code groups_listed.plain plain))

-- ---- the codes of two letters

none_below : (keys : List ℕ) (number least : ℕ) → list_all (λ key. nat_le least key) keys ≡ true → number < least → first_index keys number ≡ None
none_below [] number least all below = refl
none_below (key ∷ keys) number least all below = grind (arith, nat_tests, and_parts, none_below keys number least)

two_digits : (a b : ℕ) → folded_number (a ∷ b ∷ []) ≡ fold_byte a * 256 + fold_byte b
unfolding folded_number
two_digits a b = omega arith

-- the keys of EU, EZ, QO and UN come before those of three digits
no_key : (a b : ℕ) → a < 256 → b < 256 → is_letter_group a b ≡ false → first_index GROUP_KEYS (a * 256 + b) ≡ None
no_key a b small also none = grind (arith, nat_tests, or_parts, and_parts, none_below (drop 4 GROUP_KEYS) (a * 256 + b) 65536 refl)

two_letters : (a b : ℕ) → are_alphanumeric (a ∷ b ∷ []) ≡ true → is_letter_group (fold_byte a) (fold_byte b) ≡ false → IsGroupIndex (a ∷ b ∷ []) None
two_letters a b plain none =
    let digits = fold_digits (a ∷ b ∷ []) plain in
    let no : first_index GROUP_KEYS (folded_number (a ∷ b ∷ [])) ≡ None = rw (two_digits a b) (no_key (fold_byte a) (fold_byte b) digits.0.most digits.1.0.most none) in
    group_found None GROUP_KEYS (a ∷ b ∷ []) plain groups_listed.codes_are (sym no) (λ i is. cc is)

pub country_apart :
    (code : List ℕ) → are_alphanumeric code ≡ true → 2 ≤ length code → length code < 3 → is_letter_group (fold_byte (get_or code 0 0)) (fold_byte (get_or code 1 0)) ≡ false → IsGroupIndex code None
country_apart [] plain some few none = absurd (omega (arith, some))
country_apart (a ∷ []) plain some few none = absurd (omega (arith, some))
country_apart (a ∷ b ∷ []) plain some few none = two_letters a b plain none
country_apart (a ∷ b ∷ c ∷ code) plain some few none = absurd (omega (arith, few))

-- ---- the regions of a group

regions_plain : (i : ℕ) → i < length region_groups → list_all are_alphanumeric (get_or region_groups i no_group).regions ≡ true
regions_plain i inside = grind (arith, and_parts, list_all_get is_plain_group region_groups i no_group groups_listed.plain inside)

pub regions_listed :
    (numbers : List ℕ) (rows : List (List ℕ)) (i : ℕ) → i < length region_groups → rows ≡ map region_numbers region_groups → numbers ≡ get_or rows i [] →
    numbers ≡ region_numbers (get_or region_groups i no_group)
regions_listed numbers rows i inside rows_are is = is ∙ ap (λ rows. get_or rows i []) rows_are ∙ get_or-map region_numbers region_groups i no_group [] inside

pub regions_climb : (i : ℕ) → i < length region_groups → climbs_from 0 (region_numbers (get_or region_groups i no_group)) ≡ true
regions_climb i inside =
    ap (climbs_from 0) (sym (get_or-map region_numbers region_groups i no_group [] inside))
    ∙ list_all_get (climbs_from 0) (map region_numbers region_groups) i [] groups_listed.regions_climb (subst (λ n. i < n) (sym (length-map region_groups region_numbers)) inside)

module _ (numbers : List ℕ) (i : ℕ) (region : List ℕ) (inside : i < length region_groups) (plain : are_alphanumeric region ≡ true) (is : numbers ≡ region_numbers (get_or region_groups i no_group)) where
  region_among : is_some (first_index numbers (folded_number region)) ≡ is_among (get_or region_groups i no_group).regions region
  region_among =
      ap (λ keys. is_some (first_index keys (folded_number region))) is
      ∙ among_by_number (get_or region_groups i no_group).regions region (regions_plain i inside) plain

  pub width_inside : is_some (first_index numbers (folded_number region)) ≡ true → length numbers ≡ width_of (get_or region_groups i no_group) region
  width_inside found = rw (sym region_among ∙ found) (ap length is ∙ length-map (get_or region_groups i no_group).regions folded_number)

  pub width_outside : is_some (first_index numbers (folded_number region)) ≡ false → no_group_width ≡ width_of (get_or region_groups i no_group) region
  width_outside none = rw (sym region_among ∙ none) refl

-- ---- in any case

unlisted-alike : (a b : List ℕ) → Alike a b → width_unlisted a ≡ width_unlisted b
unlisted-alike a b same = grind (arith, are_alike-right)

among_groups-alike : (groups : List RegionGroup) (r s a b : List ℕ) → Alike r s → Alike a b → width_among groups r a ≡ width_among groups s b
among_groups-alike [] r s a b other same = unlisted-alike a b same
among_groups-alike (group ∷ groups) r s a b other same =
    rw (are_alike-right group.code a b same, among-alike group.regions r s other, among_groups-alike groups r s a b other same) refl

region_in-alike : (o p : Option Fields) → AlikeOptions o p → Alike (region_in o) (region_in p)
region_in-alike o p same = by_options (λ v w. Alike (region_in v) (region_in w)) refl (λ f g also. also.region) o p same

pub width-alike : (range tag other another : List ℕ) → Alike range other → Alike tag another → region_width range tag ≡ region_width other another
unfolding region_width width_of_forms
width-alike range tag other another same also =
    among_groups-alike region_groups _ _ _ _ (region_in-alike _ _ (matching_form-alike range other same)) (region_in-alike _ _ (matching_form-alike tag another also))
