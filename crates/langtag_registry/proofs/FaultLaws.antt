-- The first fault of a record, part by part, and that a tag is valid where it has no fault.
use Rattle.langtag_scan.proofs.Prelude.{◌≡◌, ℕ, ◌+◌, ◌≤◌, Bool, true, false, not, List, [], ◌∷◌, ◌++◌, length, map, take, drop, Option, None, Some, IsTrue, slice_get, refl, sym, ap, ◌∙◌, arith, inl, inr, list_any, position, AllByRecursion, option_or, common_steps, at_drop_more, take_more, not-true, option_map}
use Rattle.std.specs.List.{position_from}
use Rattle.std.proofs.lemmas.Iterator.Adapters.{position_from-zero}
use Rattle.langtag_scan.specs.Grammar.{are_alike, Record, Spells, IsTag, IsNormal}
use Rattle.langtag.specs.Definitions.{IsGrandfathered}
use Rattle.langtag.specs.Repeat.{repeat, repeat_index, repeat_index_after, are_alike_bytes}
use Rattle.langtag.proofs.RepeatLaws.{IsAt-drop}
use Rattle.langtag_fields.specs.Registered.{is_registered_language, is_registered_extlang, is_registered_variant}
use Rattle.langtag_registry.specs.Fault.{Told, language, repeated_singleton, unless, extlang_faults, language_faults, script_faults, region_faults, variant_faults, singleton_faults, faults}
use Rattle.langtag_fields.specs.Valid.{IsValidRecord, IsValid}
use Rattle.langtag_fields.proofs.RepeatsSeen.{repeat_after, repeat-after}

abbrev pub first : List Told → Option Told
first list = slice_get list 0

first-append : (a b : List Told) → first (a ++ b) ≡ option_or (first a) (first b)
first-append [] b = refl
first-append (x ∷ a) b = refl

-- the first of five
abbrev pub first_of : Option Told → Option Told → Option Told → Option Told → Option Told → Option Told
first_of a b c d e = option_or a (option_or b (option_or c (option_or d e)))

abbrev singletons : Record → List ℕ
singletons r = map (λ e. e.singleton) r.extensions

pub first_fault :
    (r : Record) →
    first (faults r) ≡ first_of (first (language_faults r.primary r.extended)) (first (script_faults r.script)) (first (region_faults r.region)) (first (variant_faults [] r.variants)) (first (singleton_faults [] (map (λ e. e.singleton) r.extensions)))
unfolding faults
first_fault r = grind (arith, common_steps, first-append)

-- ---- singletons

first-singleton_faults :
    (seen rest : List ℕ) → first (singleton_faults seen rest) ≡ option_map (λ b. repeated_singleton (b ∷ [])) (repeat_after are_alike_bytes seen rest)
first-singleton_faults seen [] = refl
first-singleton_faults seen (b ∷ rest) = grind (arith, common_steps, first-singleton_faults (seen ++ b ∷ []) rest)

pub first_singleton : (list : List ℕ) → first (singleton_faults [] list) ≡ option_map (λ b. repeated_singleton (b ∷ [])) (repeat are_alike_bytes list)
first_singleton list = first-singleton_faults [] list ∙ ap (option_map (λ b. repeated_singleton (b ∷ []))) (sym (repeat-after are_alike_bytes list))

-- ---- variants

pub record AreFaultsFrom (n : ℕ) (all : List (List ℕ)) : Type 0 where
  pub so_far : first (variant_faults [] all) ≡ first (variant_faults (take n all) (drop n all))

pub variant_later :
    (all : List (List ℕ)) (n : ℕ) (v : List ℕ) (rest : List (List ℕ)) → AreFaultsFrom n all → drop n all ≡ v ∷ rest →
    is_registered_variant v ≡ true → list_any (are_alike v) (take n all) ≡ false → AreFaultsFrom (n + 1) all
variant_later all n v rest from left known new = grind (arith, common_steps, IsAt-drop, at_drop_more, take_more)

-- ---- no fault, and valid

none_both : (a b : List Told) → a ++ b ≡ [] → (a ≡ []) × (b ≡ [])
none_both [] b none = (refl, none)
none_both (x ∷ a) b none = absurd cc

none_first : (a : List Told) → first a ≡ None → a ≡ []
none_first [] none = refl
none_first (x ∷ a) none = absurd cc

holds : (b : Bool) (t : Told) → unless b t ≡ [] → b ≡ true
holds b t none = grind (arith, common_steps)

extlangs_valid : (ss : List (List ℕ)) → extlang_faults ss ≡ [] → AllByRecursion (λ s. IsTrue (is_registered_extlang s)) ss × (length ss ≤ 1)
extlangs_valid [] none = (tt, omega arith)
extlangs_valid (s ∷ []) none = grind (arith, common_steps, holds)
extlangs_valid (s ∷ t ∷ ss) none = grind (arith, common_steps, none_both)

variants_valid :
    (seen vs : List (List ℕ)) → variant_faults seen vs ≡ [] →
    AllByRecursion (λ s. IsTrue (is_registered_variant s)) vs × (repeat_after are_alike seen vs ≡ None)
variants_valid seen [] none = (tt, refl)
variants_valid seen (v ∷ vs) none = grind (arith, common_steps, none_both, holds, not-true, variants_valid (seen ++ v ∷ []) vs)

pub valid_without_fault : (r : Record) → first (faults r) ≡ None → IsValidRecord r
unfolding faults
valid_without_fault r none =
    let (l, others) = none_both (language_faults r.primary r.extended) _ (none_first _ none) in
    let (s, after_script) = none_both (script_faults r.script) _ others in
    let (g, after_region) = none_both (region_faults r.region) _ after_script in
    let (v, x) = none_both (variant_faults [] r.variants) _ after_region in
    let (p, e) = none_both (unless (is_registered_language r.primary) (language r.primary)) _ l in
    grind (arith, common_steps, holds, extlangs_valid r.extended, variants_valid [] r.variants, repeat-after are_alike r.variants, first_singleton (singletons r))

-- and back

variants_none :
    (seen vs : List (List ℕ)) → AllByRecursion (λ s. IsTrue (is_registered_variant s)) vs → repeat_after are_alike seen vs ≡ None →
    variant_faults seen vs ≡ []
variants_none seen [] all none = refl
variants_none seen (v ∷ vs) all none = grind (arith, common_steps, variants_none (seen ++ v ∷ []) vs)

-- ---- which of the variants it is

abbrev is_unregistered : List ℕ → Bool
is_unregistered v = not (is_registered_variant v)

-- none is, and none is repeated, among the first so many
pub record AreGoodUntil (n : ℕ) (all : List (List ℕ)) : Type 0 where
  pub registered : position is_unregistered all ≡ position_from is_unregistered n (drop n all)
  pub apart : repeat_index are_alike all ≡ repeat_index_after are_alike (take n all) (drop n all)

pub good_at_start : (all : List (List ℕ)) → AreGoodUntil 0 all
good_at_start all = record { registered = position_from-zero is_unregistered all; apart = refl }

-- ---- valid tags, by their kinds and faults

pub valid_of_other : (text : List ℕ) → IsTag text → (IsNormal text → ⊥) → IsValid text
unfolding IsValid IsNormal
valid_of_other text tag other = (tag, inr (λ r spells. absurd (other (r, spells))))

pub valid_of_none : (text : List ℕ) → IsTag text → ((r : Record) → Spells r text → None ≡ first (faults r)) → IsValid text
unfolding IsValid
valid_of_none text tag none = (tag, inr (λ r spells. valid_without_fault r (sym (none r spells))))

pub valid_grandfathered : (text : List ℕ) → IsTag text → IsGrandfathered text → IsValid text
unfolding IsValid
valid_grandfathered text tag old = (tag, inl old)

pub invalid : (text : List ℕ) (x : Told) → IsNormal text → ((r : Record) → Spells r text → Some x ≡ first (faults r)) → (IsGrandfathered text → ⊥) → IsValid text → ⊥
unfolding IsValid IsNormal
invalid text x normal is other valid = grind (arith, common_steps, first_fault, variants_none, repeat-after, first_singleton)
