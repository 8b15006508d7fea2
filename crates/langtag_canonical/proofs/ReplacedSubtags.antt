-- What a subtag, a language or a whole tag becomes in a canonical form: one of its class, which is replaced by nothing more.
use Rattle.langtag_scan.proofs.Prelude.{common_steps, ◌≡◌, ◌↔◌, ℕ, true, false, Bool, List, [], ◌∷◌, None, Some, refl, sym, ap, arith, ◌≤◌, not, leb, length, map, find, Option, is_some, IfSome, option_map, unwrap_or, cond, list_all, list_any, AllByRecursion, bytes_eq, bytes_decides, and_parts, leb-true, nat_tests, ◌∙◌}
use Rattle.langtag_scan.specs.Grammar.{fold_byte, fold_text, are_alike, Alike, are_alike-decides, is_primary, is_letter, is_extended, join}
use Rattle.langtag_scan.proofs.Laws.{of_primary}
use Rattle.langtag_fields.specs.Fields.{preferred_language, preferred_region, preferred_variant}
use Rattle.langtag_fields.specs.Registered.{is_registered_extlang}
use Rattle.langtag_fields.specs.Subtags.{extlang_subtags, language_preferred, region_preferred, variant_preferred}
use Rattle.langtag_canonical.specs.Canonical.{canonical_language, preferred_extlang, canonical_primary, canonical_extended, canonical_variants, canonical_region}
use Rattle.langtag_text.specs.declared.output.Output.{Output}
use Rattle.langtag_text.specs.Output.{Pushes}
use Rattle.langtag_text.proofs.Pushed.{pushes_both, pushes_same, pushes_joined}
use Rattle.langtag_fields.specs.Entry.{Entry, value_for}
use Rattle.langtag_fields.proofs.Values.{value_good, found_good, value_for-alike}

-- ---- extended subtags are registered in small letters

found_small :
    (list : List (List ℕ)) (text : List ℕ) → list_all (λ t. bytes_eq (fold_text t) t) list ≡ true →
    find (are_alike text) list ≡ cond (list_any (are_alike text) list) (Some (fold_text text)) None
found_small [] text small = refl
found_small (t ∷ list) text small = grind (arith, nat_tests, and_parts, are_alike-decides text t, bytes_decides (fold_text t) t, found_small list text)

-- an extended language is registered and becomes a language, or it is not and stays
pub extlang_small : (text : List ℕ) → preferred_extlang text ≡ cond (is_registered_extlang text) (Some (fold_text text)) None
unfolding is_registered_extlang preferred_extlang extlang_subtags fold_byte
extlang_small text = found_small extlang_subtags text refl

-- ---- what each language becomes is put

-- several extended subtags, and the language before them, stay
pub several_pushed :
    (primary first second : List ℕ) (extended others : List (List ℕ)) (text : List ℕ) (old new : Output) → is_primary primary ≡ true → extended ≡ first ∷ second ∷ others →
    join (primary ∷ extended) ≡ text → Pushes (text ∷ []) old new → Pushes (canonical_primary primary extended ∷ canonical_extended extended) old new
several_pushed primary first second extended others text old new class several joined these =
    let whole = sym joined ∙ ap (λ es. join (primary ∷ es)) several in
    rw several (pushes_joined primary (first ∷ second ∷ others) old new (of_primary primary class).some (rw whole at these))

-- one that is registered takes the place of the language, and becomes its Preferred-Value as a language
pub extlang_pushed :
    (primary extlang : List ℕ) (extended : List (List ℕ)) (text : List ℕ) (old new : Output) → extended ≡ extlang ∷ [] →
    is_registered_extlang extlang ≡ true → text ≡ canonical_language (fold_text extlang) → Pushes (text ∷ []) old new →
    Pushes (canonical_primary primary extended ∷ canonical_extended extended) old new
extlang_pushed primary extlang extended text old new one known same these = grind (arith, common_steps, extlang_small, pushes_same)

-- another stays after it
pub other_pushed :
    (primary value extlang : List ℕ) (extended : List (List ℕ)) (old middle new : Output) → extended ≡ extlang ∷ [] →
    is_registered_extlang extlang ≡ false → value ≡ unwrap_or (preferred_language primary) primary → Pushes (value ∷ []) old middle →
    Pushes (extlang ∷ []) middle new → Pushes (canonical_primary primary extended ∷ canonical_extended extended) old new
other_pushed primary value extlang extended old middle new one other same these those =
    grind (arith, common_steps, extlang_small, pushes_both (value ∷ []) (extlang ∷ []) old middle new, pushes_same)

-- ---- where it stays: `none` says that the primary subtag does

pub alone_stays :
    (primary : List ℕ) (extended : List (List ℕ)) (none : Bool) → extended ≡ [] →
    (none ≡ true) ↔ (unwrap_or (preferred_language primary) primary ≡ primary) →
    (none ≡ true) ↔ ((canonical_primary primary extended ≡ primary) × (canonical_extended extended ≡ extended))
alone_stays primary extended none empty decided = rw empty (λ h. (decided.0 h, refl), λ stays. decided.1 stays.0)

pub other_stays :
    (primary extlang : List ℕ) (extended : List (List ℕ)) (none : Bool) → extended ≡ extlang ∷ [] → is_registered_extlang extlang ≡ false →
    (none ≡ true) ↔ (unwrap_or (preferred_language primary) primary ≡ primary) →
    (none ≡ true) ↔ ((canonical_primary primary extended ≡ primary) × (canonical_extended extended ≡ extended))
other_stays primary extlang extended none one other decided = grind (arith, common_steps, extlang_small)

-- ---- what a subtag becomes in a canonical form: one of its class, which is replaced by nothing more

pub none_from_test : (o : Option (List ℕ)) → not (is_some o) ≡ true → o ≡ None
none_from_test o h = grind (arith, common_steps)

-- ---- a subtag that becomes its Preferred-Value, or stays

module _ (preferred : List ℕ → Option (List ℕ)) where
  abbrev pub replaced : List ℕ → List ℕ
  replaced s = unwrap_or (preferred s) s

  -- what holds of it, and of each Preferred-Value, holds of what it becomes
  pub replaced-holds : (P : List ℕ → Type 0) (s : List ℕ) → P s → ((new : List ℕ) → preferred s ≡ Some new → P new) → P (replaced s)
  replaced-holds P s holds new_holds = grind (arith, common_steps)

  abbrev pub IsSettled : Type 0
  IsSettled = (s new : List ℕ) → preferred s ≡ Some new → preferred new ≡ None

  -- where no Preferred-Value has one itself, replacing once more changes nothing
  pub replaced-twice : IsSettled → (s : List ℕ) → replaced (replaced s) ≡ replaced s
  replaced-twice settled s = grind (arith, common_steps)

  abbrev pub IgnoresCase : Type 0
  IgnoresCase = (a b : List ℕ) → Alike a b → preferred a ≡ preferred b

  -- alike subtags become alike ones
  pub replaced-alike : IgnoresCase → (a b : List ℕ) → Alike a b → Alike (replaced a) (replaced b)
  replaced-alike ignores a b alike = grind (arith, common_steps)

-- ---- a subtag that may be there, and subtags

module _ (P : List ℕ → Type 0) (f : List ℕ → List ℕ) (step : (s : List ℕ) → P s → P (f s)) where
  pub if_some-map : (o : Option (List ℕ)) → IfSome o P → IfSome (option_map f o) P
  if_some-map o holds = grind (arith, common_steps)

  pub each-map : (ss : List (List ℕ)) → AllByRecursion P ss → AllByRecursion P (map f ss)
  each-map [] all = tt
  each-map (s ∷ ss) all = (step s all.0, each-map ss all.1)

-- ---- the values of entries

-- no value has one itself, where a test says so
values_settled : (list : List Entry) → list_all (λ n. not (is_some (value_for list n))) (map (λ e. e.value) list) ≡ true → IsSettled (value_for list)
values_settled list none s new is = none_from_test (value_for list new) (value_good (λ n. not (is_some (value_for list n))) list s new none is)

-- alike subtags have the same value
pub ignore_case : IgnoresCase preferred_language × IgnoresCase preferred_region × IgnoresCase preferred_variant
unfolding preferred_language preferred_region preferred_variant
ignore_case = (value_for-alike language_preferred, value_for-alike region_preferred, value_for-alike variant_preferred)

-- ---- languages

pub language_settled : IsSettled preferred_language
unfolding preferred_language language_preferred fold_byte
language_settled = values_settled language_preferred refl

pub new_language_short : (s new : List ℕ) → preferred_language s ≡ Some new → length new ≤ 3
unfolding preferred_language language_preferred
new_language_short s new is = leb-true (length new) 3 (value_good (λ n. leb (length n) 3) language_preferred s new refl is)

-- ---- regions and variants

pub region_settled : IsSettled preferred_region
unfolding preferred_region region_preferred fold_byte
region_settled = values_settled region_preferred refl

pub variant_settled : IsSettled preferred_variant
unfolding preferred_variant variant_preferred fold_byte
variant_settled = values_settled variant_preferred refl

-- ---- extended languages

pub new_extlang_extended : (s new : List ℕ) → preferred_extlang s ≡ Some new → is_extended new ≡ true
unfolding preferred_extlang extlang_subtags is_extended is_letter
new_extlang_extended s new is = found_good (are_alike s) is_extended extlang_subtags new refl is

pub extlang-alike : IgnoresCase preferred_extlang
unfolding preferred_extlang
extlang-alike a b alike = grind (arith, common_steps)

-- ---- where they stay

abbrev pub has_none : List ℕ → Bool
has_none v = not (is_some (preferred_variant v))

pub variants_stay : (vs : List (List ℕ)) → (list_all has_none vs ≡ true) ↔ (canonical_variants vs ≡ vs)
variants_stay [] = (λ _. refl, λ _. refl)
variants_stay (v ∷ vs) = grind (arith, common_steps, and_parts (has_none v) (list_all has_none vs), variants_stay vs, variant_settled)

-- ---- whether one after the other has none

pub view_of : {A : Type 0} (view : A → List ℕ) (found : Option A) (x : A) → view (unwrap_or found x) ≡ unwrap_or (option_map view found) (view x)
view_of view found x = grind (arith, common_steps)

-- ---- a subtag stays where it has no Preferred-Value, and only there

-- `none` is the answer of `is_none` to what was found
pub stays_without :
    {A : Type 0} (view : A → List ℕ) (preferred : List ℕ → Option (List ℕ)) → IsSettled preferred → (found : Option A) (s : List ℕ) (none : Bool) →
    option_map view found ≡ preferred s → is_some found ≡ not none → (none ≡ true) ↔ (unwrap_or (preferred s) s ≡ s)
stays_without view preferred settled found s none same is = grind (arith, common_steps)

pub region_stays :
    {A : Type 0} (view : A → List ℕ) (found : Option A) (g : List ℕ) (none : Bool) →
    option_map view found ≡ preferred_region g → is_some found ≡ not none → (none ≡ true) ↔ (canonical_region (Some g) ≡ Some g)
region_stays view found g none same is = grind (arith, common_steps, stays_without, region_settled)
