-- The canonical form of a valid tag is valid where no two variants become the same, and only there; it has no extended language but for `zh-min`.
use Rattle.langtag_fields.proofs.Values.{member_passes, preferred_tag-alike}
use Rattle.langtag_scan.specs.Grammar.{are_alike-decides, Alike, are_alike, fold_byte, is_letter, is_digit, is_variant, is_extended, grandfathered_tags, Grandfathered, Record, EachRecord, flat, IsWellFormed, Spells, segments, IsTag, IsNormal}
use Rattle.langtag_scan.proofs.Prelude.{◌≡◌, ℕ, ◌≤◌, true, Bool, leb, List, [], ◌∷◌, length, map, None, Some, IsTrue, refl, sym, ap, arith, length-append, inl, inr, subst, ◌∙◌, rules, false, not, ◌||◌, codes, is_some, list_all, AllByRecursion, and_parts, or_cases, both_ways, not-true, length-map, filter-append, common_steps, filter, nat_tests}
use Rattle.langtag_scan.proofs.Laws.{alike_parts, spelled_segments, spelled_once, each_from_test}
use Rattle.langtag.specs.Registered.{IsGrandfathered, IsGrandfatheredAt}
use Rattle.langtag.specs.Repeat.{repeat}
use Rattle.langtag_canonical.specs.Canonical.{canonical_variants, preferred_extlang, canonical_extended, canonical_record, IsReplacedForm}
use Rattle.langtag_fields.specs.Entry.{Entry, value_for}
use Rattle.langtag_fields.specs.Fields.{preferred_tag}
use Rattle.langtag_fields.specs.Subtags.{tag_preferred}
use Rattle.langtag_fields.specs.Registered.{is_registered_language, is_registered_extlang}
use Rattle.langtag_fields.specs.Valid.{IsValidRecord, IsValid}
use Rattle.langtag_canonical.proofs.ReplacedSubtags.{replaced-holds, if_some-map, each-map, extlang_small}
use Rattle.langtag_canonical.proofs.ExtensionOrder.{in_order-once}
use Rattle.langtag_canonical.proofs.TwiceLaws.{canonical_record-twice, whole_form, own_form, parts_form, form_of, again_form, each_from_one, canonical_record_well_formed}
use Rattle.langtag_fields.proofs.WholeTags.{record_of, simple_record, preferred_spelled, if_some_from_test, registered_from_bit, new_language_known, extlang_known, new_region_known, new_variant_known, whole_valid_of}

-- ---- by computation

-- at most one subtag is of the class of variants
abbrev has_few : List ℕ → Bool
has_few text = leb (length (filter is_variant (segments text))) 1

-- ---- the registered text that a text is alike

abbrev IsAlikeOne : (List ℕ → Bool) → List ℕ → Type 0
IsAlikeOne is_good text = (one : List ℕ) × IsTrue (is_good one) × Alike one text

alike_subtag :
    (is_good : List ℕ → Bool) (list : List Entry) (text value : List ℕ) → list_all is_good (map (λ e. e.subtag) list) ≡ true →
    value_for list text ≡ Some value → IsAlikeOne is_good text
alike_subtag is_good [] text value all is = absurd cc
alike_subtag is_good (e ∷ list) text value all is = grind (arith, common_steps, and_parts (is_good e.subtag), are_alike-decides e.subtag text, alike_subtag is_good list text value)

-- ---- its variants

filter-all : (vs : List (List ℕ)) → AllByRecursion (λ s. IsTrue (is_variant s)) vs → filter is_variant vs ≡ vs
filter-all [] all = refl
filter-all (v ∷ vs) all = grind (arith, common_steps, filter-all vs)

-- they are among the subtags of the class
variants_counted : (r : Record) → AllByRecursion (λ s. IsTrue (is_variant s)) r.variants → length r.variants ≤ length (filter is_variant (flat r))
variants_counted r all = grind (arith, common_steps, filter-append, length-append, filter-all)

few_variants : (text : List ℕ) → IsAlikeOne has_few text → EachRecord text (λ r. length r.variants ≤ 1)
few_variants text (one, few, alike) = λ r spells.
    let like = alike_parts text one (sym alike) r spells in
    let same = ap (λ z. length z.variants) like.2 in
    grind (arith, common_steps, nat_tests, spelled_segments like.0 like.1.0, length-map, variants_counted like.0)

one_apart : (vs : List (List ℕ)) → length vs ≤ 1 → repeat are_alike (canonical_variants vs) ≡ None
one_apart [] few = refl
one_apart (v ∷ []) few = refl
one_apart (v ∷ w ∷ vs) few = absurd (omega (arith, few))

abbrev AreApart : Record → Type 0
AreApart r = repeat are_alike (canonical_variants r.variants) ≡ None

-- so they stay apart
pub preferred_apart : (text new : List ℕ) → preferred_tag text ≡ Some new → EachRecord text AreApart
unfolding preferred_tag tag_preferred is_variant is_letter is_digit
preferred_apart text new is = λ r spells. one_apart r.variants (few_variants text (alike_subtag has_few tag_preferred text new refl is) r spells)

pub grandfathered_apart : (text : List ℕ) → IsGrandfathered text → EachRecord text AreApart
unfolding IsGrandfathered IsGrandfatheredAt grandfathered_tags is_variant is_letter is_digit
grandfathered_apart text (k, (entry, at, alike)) = λ r spells.
    one_apart r.variants (few_variants text (entry.text, member_passes (λ e. has_few e.text) grandfathered_tags k entry refl at, alike) r spells)

-- ---- the canonical form of a valid tag is valid where no two variants become the same, and only there

new_extlang_known : (s new : List ℕ) → preferred_extlang s ≡ Some new → is_registered_language new ≡ true
unfolding preferred_extlang
new_extlang_known s new is = extlang_known (are_alike s) new is

-- ---- the canonical record of a valid one

-- one extended language that is registered goes
pub no_extended : (es : List (List ℕ)) → AllByRecursion (λ s. IsTrue (is_registered_extlang s)) es → length es ≤ 1 → canonical_extended es ≡ []
no_extended es known one = grind (arith, common_steps)

canonical_record_valid : (r : Record) → IsWellFormed r → IsValidRecord r → AreApart r → IsValidRecord (canonical_record r)
unfolding canonical_record
canonical_record_valid r well valid once =
    search (rules, no_extended, if_some-map, replaced-holds, new_region_known, each-map, new_variant_known, in_order-once, new_language_known, extlang_small, new_extlang_known)

-- a text is valid that a valid record spells
valid_spelled : (text : List ℕ) (r : Record) → Spells r text → IsValidRecord r → IsValid text
unfolding IsValid IsTag IsNormal
valid_spelled text r spells valid = grind (arith, common_steps, spelled_once r)

-- ---- the Preferred-Value of a whole tag is valid

preferred_valid : (text new : List ℕ) → preferred_tag text ≡ Some new → IsValid new
preferred_valid text new is =
    grind (arith, common_steps, and_parts, whole_valid_of, simple_record new, valid_spelled new (record_of new), preferred_spelled, registered_from_bit, if_some_from_test, each_from_test)

-- ---- every valid tag

-- where no two variants become the same, the canonical form is valid
pub valid_form : (old new : List ℕ) → IsValid old → EachRecord old AreApart → IsReplacedForm old new → IsValid new
unfolding IsValid
valid_form old new valid once p =
    elim (form_of old new p) [
      | whole_form is ↦ preferred_valid old new is
      | own_form none why same ↦ subst IsValid (sym same) valid
      | parts_form new_one r spells becomes none ↦ grind (arith, common_steps, valid_spelled new (canonical_record r), canonical_record_valid r)
      | again_form r spells is ↦ preferred_valid _ new is
    ]

-- ---- only where no two variants become the same

-- the variants of the canonical record stay
same_variants : (r : Record) → AreApart (canonical_record r) → AreApart r
unfolding canonical_record
same_variants r none = ap (λ z. repeat are_alike z.variants) (sym (canonical_record-twice r)) ∙ none

apart_where_valid : (r : Record) (text : List ℕ) → Spells (canonical_record r) text → IsValid text → AreApart r
unfolding IsValid canonical_record
apart_where_valid r text spells valid =
    elim valid.1 [
      | inl old ↦ same_variants r (grandfathered_apart text old (canonical_record r) spells)
      | inr each ↦ (each (canonical_record r) spells).no_repeated_variant
    ]

pub apart_form : (old new : List ℕ) → IsReplacedForm old new → IsValid new → EachRecord old AreApart
unfolding IsNormal
apart_form old new p valid =
    elim (form_of old new p) [
      | whole_form is ↦ preferred_apart old new is
      | own_form none (inl old_one) same ↦ grandfathered_apart old old_one
      | own_form none (inr no_normal) same ↦ λ r spells. absurd (no_normal (r, spells))
      | parts_form new_one r spells becomes none ↦ each_from_one AreApart old r spells (apart_where_valid r new becomes valid)
      | again_form r spells is ↦
          each_from_one AreApart old r spells (same_variants r (preferred_apart _ new is (canonical_record r) (canonical_record_well_formed r spells.0, refl)))
    ]

-- ---- the canonical form of a valid tag has no extended language, but for the grandfathered `zh-min`

abbrev HasNone : Record → Type 0
HasNone r = r.extended ≡ []

-- ---- the grandfathered tags without a Preferred-Value: by computation

abbrev second_is_extended : List (List ℕ) → Bool
second_is_extended (first ∷ second ∷ others) = is_extended second
second_is_extended _ = false

abbrev is_fit : Grandfathered → Bool
is_fit entry = is_some (preferred_tag entry.text) || (are_alike (codes "zh-min") entry.text || not (second_is_extended (segments entry.text)))

all_fit : list_all is_fit grandfathered_tags ≡ true
unfolding grandfathered_tags tag_preferred preferred_tag fold_byte is_extended is_letter
all_fit = refl

-- a normal text whose second subtag is of another class has no extended language
none_extended : (r : Record) (text : List ℕ) → Spells r text → second_is_extended (segments text) ≡ false → HasNone r
none_extended r text spells other = by_extended r.extended refl
  where
    by_extended : (es : List (List ℕ)) → r.extended ≡ es → r.extended ≡ []
    by_extended [] is = is
    by_extended (e ∷ es) is = grind (arith, nat_tests, spelled_segments, both_ways)

grandfathered_none : (old : List ℕ) → preferred_tag old ≡ None → (Alike (codes "zh-min") old → ⊥) → IsGrandfathered old → EachRecord old HasNone
unfolding IsGrandfathered IsGrandfatheredAt
grandfathered_none old none other (k, (entry, at, alike)) = λ r spells.
    grind (arith, common_steps, alike_parts old entry.text (sym alike) r spells, member_passes is_fit grandfathered_tags k entry all_fit at, or_cases, both_ways, preferred_tag-alike entry.text old alike, are_alike-decides (codes "zh-min") entry.text, not-true, none_extended)

-- ---- every valid tag

preferred_none : (text new : List ℕ) → preferred_tag text ≡ Some new → EachRecord new HasNone
preferred_none text new is = each_from_one HasNone new (record_of new) (preferred_spelled text new is) (simple_record new).extended

pub no_extlang_form : (old new : List ℕ) → IsValid old → (Alike (codes "zh-min") new → ⊥) → IsReplacedForm old new → EachRecord new HasNone
unfolding IsValid IsNormal canonical_record
no_extlang_form old new valid other p =
    elim (form_of old new p) [
      | whole_form is ↦ preferred_none old new is
      | own_form none (inl old_one) same ↦ grind (arith, common_steps, grandfathered_none old none)
      | own_form none (inr no_normal) same ↦ λ r spells. absurd (no_normal (r, (spells.0, spells.1 ∙ same)))
      | parts_form new_one r spells becomes none ↦ each_from_one HasNone new (canonical_record r) becomes (grind (arith, common_steps, no_extended r.extended))
      | again_form r spells is ↦ preferred_none _ new is
    ]
