-- What is found of a text is what it is: a normal tag with the ends of its parts, a private use tag, or neither.
use Rattle.langtag_scan.proofs.Prelude.{◌≡◌, ◌↔◌, ℕ, List, Option, IsTrue, MatchOption, arith, Bool, false, cond, [], ◌∷◌, Some, None, refl, sym, subst, ∥∥₁_elim, props, common_steps, option_map_or, both_ways}
use mathlib.Core.Bool.{Bool-set}
use Rattle.langtag_scan.specs.Grammar.{HasEnds, IsFoundOf, is_normal, is_private_use, normal_ends, IsNormal, IsPrivate, IsIrregular, IsTag, all_at, end_at, index_after, outcome, outcome_of, IsRefused, Stage, Start, InPrivate, AfterMark, AfterFirstMark, InPrivateTag, segments}
use Rattle.langtag_scan.specs.declared.ends.Ends.{Ends}
use Rattle.langtag_scan.specs.declared.finding.Finding.{Finding}
use Rattle.langtag_scan.specs.declared.finding.Finding.TheVariants.{Normal, PrivateUse, Irregular}
use Rattle.langtag_scan.proofs.IrregularTexts.{irregular_fold, irregular_from_fold, normal_no_private, normal_no_irregular, private_no_irregular}
use Rattle.langtag_scan.proofs.NormalTexts.{runs_from_private, private_from_runs, normal_from_runs, runs_from_normal, spelled_segments, runs_private, one_no_primary}
use Rattle.langtag_scan.proofs.SpelledTexts.{ends_had, normal_from_ends}
use Rattle.langtag_scan.proofs.TagLaws.{tag_normal, tag_private, tag_irregular}
use Rattle.langtag_scan.proofs.PartOffsets.{ends_after-flat}
use Rattle.langtag_scan.proofs.Running.{first_of}
use Rattle.langtag_scan.proofs.StageLaws.{is_outside, next_inside, after-inside, runs, ends_after}

-- ---- the kinds

-- of what something was found, it is a tag
pub tag_found : (text : List ℕ) (found : Finding) → IsFoundOf text found → IsTag text
tag_found text found h = grind (arith, common_steps, tag_normal, normal_from_ends, tag_private, tag_irregular)

pub normal_found : (text : List ℕ) (found : Finding) → IsFoundOf text found → IsTrue (is_normal found) ↔ IsNormal text
unfolding IsIrregular
normal_found text found h = grind (arith, common_steps, normal_from_ends text, normal_no_private text, normal_no_irregular text)

pub private_found : (text : List ℕ) (found : Finding) → IsFoundOf text found → IsTrue (is_private_use found) ↔ IsPrivate text
unfolding IsIrregular
private_found text found h = grind (arith, common_steps, normal_no_private text, normal_from_ends text, private_no_irregular text)

-- the ends that were found are those of the text, and there are none where it is not normal
pub found_ends :
    (text : List ℕ) (found : Finding) (ends : Option Ends) → IsFoundOf text found → ends ≡ normal_ends found →
    MatchOption ends (IsNormal text → ⊥) (λ e. HasEnds text e)
unfolding IsIrregular
found_ends text found ends h at = grind (arith, common_steps, normal_no_private text, normal_no_irregular text)

-- ---- what is merely so is at hand

pub found_had : (text : List ℕ) (found : Finding) → ∥ IsFoundOf text found ∥₁ → IsFoundOf text found
found_had text (Normal ends) merely = ends_had text ends merely
found_had text PrivateUse merely = private_from_runs text (∥∥₁_elim merely (Bool-set _ _) (runs_from_private text))
found_had text (Irregular index) merely =
    grind (arith, common_steps, ∥∥₁_elim merely (hlevel props) (irregular_fold text index), props, irregular_fold text index, irregular_from_fold text index)

-- ---- what is found, by the rule that the subtags follow

-- where a rule finds this
abbrev found_if : Bool → Finding → Option Finding
found_if run f = cond run (Some f) None

one_more :
    (found : Stage → Option Finding) (run : Stage → Bool) (ends : Stage → Ends) (e : Ends) (o : Option Stage) →
    ((after : Stage) → o ≡ Some after → found after ≡ found_if (run after) (Normal (ends after))) →
    option_map_or found o None ≡ found_if (option_map_or run o false) (Normal (option_map_or ends o e))
one_more found run ends e o same = grind (arith, common_steps)

-- a normal tag that has begun
normal_outcome :
    (ss : List (List ℕ)) (stage : Stage) (e : Ends) → is_outside stage ≡ false →
    outcome stage e ss ≡ found_if (runs stage ss) (Normal (ends_after stage e ss))
unfolding outcome runs ends_after is_outside
normal_outcome [] stage e inside = grind (arith, common_steps)
normal_outcome (s ∷ ss) stage e inside = grind (arith, common_steps, after-inside, one_more, normal_outcome ss, next_inside)

private_outcome : (ss : List (List ℕ)) (e : Ends) → outcome InPrivateTag e ss ≡ found_if (runs InPrivate ss) PrivateUse
unfolding outcome runs
private_outcome [] e = refl
private_outcome (s ∷ ss) e = grind (arith, common_steps, private_outcome ss (end_at InPrivateTag (index_after InPrivateTag e s) e))

marked_outcome : (ss : List (List ℕ)) (e : Ends) → outcome AfterFirstMark e ss ≡ found_if (runs AfterMark ss) PrivateUse
unfolding outcome runs
marked_outcome [] e = refl
marked_outcome (s ∷ ss) e = private_outcome (s ∷ ss) e

-- ---- what the rules say of the text

-- what is found by the one rule or the other
abbrev found_of : List ℕ → Bool → Bool → Option Finding
found_of t normal private = cond normal (Some (Normal (ends_after Start (all_at 0) (segments t)))) (found_if private PrivateUse)

-- what was found of a text is all that it is, irregular texts left aside
abbrev pub Decides : List ℕ → Option Finding → Type 0
Decides t found = MatchOption found (IsRefused t) (λ f. IsFoundOf t f)

by_rules : (t s : List ℕ) (ss : List (List ℕ)) → segments t ≡ s ∷ ss → outcome_of t ≡ found_of t (runs Start (segments t)) (runs_private (segments t))
unfolding runs outcome ends_after is_outside
by_rules t s ss at = grind (arith, common_steps, normal_outcome, one_no_primary, marked_outcome)

decides :
    (t : List ℕ) (normal private : Bool) → runs Start (segments t) ≡ normal → runs_private (segments t) ≡ private →
    Decides t (found_of t normal private)
unfolding IsNormal HasEnds
decides t normal private n p = grind (arith, common_steps, spelled_segments, ends_after-flat, normal_from_runs, private_from_runs, both_ways, runs_from_normal, runs_from_private)

-- ---- the law

pub decided : (t : List ℕ) → Decides t (outcome_of t)
decided t = let k = first_of t in subst (Decides t) (sym (by_rules t k.0 k.1 k.2)) (decides t _ _ refl refl)
