-- How the stages run over the segments of a text, and what is found where a subtag goes on, is filled or ends.
use Rattle.langtag_scan.proofs.Prelude.{◌≡◌, Bool, nat_tests, ℕ, ◌<◌, true, false, eqb, List, [], ◌∷◌, ◌++◌, length, Option, Some, None, refl, ap, arith, append_assoc, sym, subst, ◌∙◌, zero, suc, ◌-◌, ◌≤◌, replicate, and_parts, le-leb, onto_first, option_map_or, length_push, length-replicate, list_all-append, slice_split_none, slice_split_at, slice_split-cons_no, slice_split-cons_yes, common_steps, ne_eqb, length-append}
use Rattle.std.proofs.lemmas.Bool.{lt-leb}
use Rattle.langtag_scan.specs.Grammar.{is_letter, is_alphanumeric, are_alphanumeric, is_primary, are_letters, is_hyphen, segments, Stage, Start, next_stage, after_stage, Classes, classes_of, after_by, may_end, end_at, index_after, outcome, IsBegun, found_by, Kind, has_letters, classes_by, filling}
use Rattle.langtag_scan.specs.declared.ends.Ends.{Ends}
use Rattle.langtag_scan.specs.declared.finding.Finding.{Finding}
use Rattle.langtag_scan.proofs.BoolFacts.{chosen}
use Rattle.langtag_scan.proofs.SubtagFacts.{hyphen_free, alphanumeric_no_hyphen, mark_letters, letters_alphanumeric, classes_of-kind, letters-kind_of}
use Rattle.langtag_scan.proofs.NormalTexts.{after_subtag}
use Rattle.langtag_scan.proofs.StageLaws.{ends_after}

pub ends_after-cons :
    (stage : Stage) (e : Ends) (s : List ℕ) (ss : List (List ℕ)) →
    ends_after stage e (s ∷ ss) ≡ option_map_or (λ after. ends_after after (end_at after (index_after stage e s) e) ss) (next_stage stage s) e
unfolding ends_after
ends_after-cons stage e s ss = refl

-- what is found of the subtags after one that ends at an index and has led to a stage, if it may stand there
abbrev pub found_after : Ends → ℕ → List (List ℕ) → Option Stage → Option Finding
found_after e n ss o = option_map_or (λ after. outcome after (end_at after n e) ss) o None

-- ---- segments of a text that begins without a hyphen

pub segments-one : (s : List ℕ) → are_alphanumeric s ≡ true → segments s ≡ s ∷ []
segments-one s h = slice_split_none (λ b. eqb b 45) s (hyphen_free s h)

pub segments-hyphen : (s u : List ℕ) → are_alphanumeric s ≡ true → segments (s ++ 45 ∷ u) ≡ s ∷ segments u
segments-hyphen s u h = slice_split_at (λ b. eqb b 45) s 45 u (hyphen_free s h) refl

-- the first segment is what stands before a hyphen
pub first_of : (u : List ℕ) → (v : List ℕ) × (ss : List (List ℕ)) × (segments u ≡ v ∷ ss)
first_of [] = ([], [], refl)
first_of (b ∷ u) = grind (arith, common_steps, first_of u, slice_split-cons_yes is_hyphen b u, slice_split-cons_no is_hyphen b u)

segments-prefix : (s u v : List ℕ) (ss : List (List ℕ)) → are_alphanumeric s ≡ true → segments u ≡ v ∷ ss → segments (s ++ u) ≡ (s ++ v) ∷ ss
segments-prefix [] u v ss h e = e
segments-prefix (b ∷ s) u v ss h e = grind (arith, common_steps, and_parts, slice_split-cons_no, alphanumeric_no_hyphen, segments-prefix s u v ss)

-- ---- a subtag that has begun

pub empty_begun : (stage : Stage) → IsBegun stage []
empty_begun stage = record { short = omega arith; alphanumeric = refl; letters = λ e. refl }

pub begun_push :
    (stage : Stage) (s : List ℕ) (b : ℕ) → is_alphanumeric b ≡ true → (stage ≡ Start → is_letter b ≡ true) → length s < 8 → IsBegun stage s →
    IsBegun stage (s ++ b ∷ [])
begun_push stage s b held first less h = grind (arith, common_steps, length_push, list_all-append)

pub begun_parts : (stage : Stage) (s v : List ℕ) → IsBegun stage (s ++ v) → IsBegun stage s × IsBegun stage v
begun_parts stage s v h = grind (arith, common_steps, length-append, and_parts, list_all-append)

-- a subtag that a tag has
pub after_begun : (stage after : Stage) (s : List ℕ) → after_stage stage s ≡ Some after → IsBegun stage s
unfolding is_primary
after_begun stage after s e = grind (arith, common_steps, after_subtag stage s after e, and_parts, mark_letters, chosen)

-- ---- a byte more: where something is found, the subtag goes on with it

pub outcome-begun :
    (stage : Stage) (e : Ends) (s : List ℕ) (b : ℕ) (u : List ℕ) (f : Finding) → are_alphanumeric s ≡ true → eqb b 45 ≡ false →
    outcome stage e (segments (s ++ b ∷ u)) ≡ Some f → IsBegun stage (s ++ b ∷ [])
unfolding outcome
outcome-begun stage e s b u f h other is =
    let k = first_of u in
    let here : segments (b ∷ u) ≡ (b ∷ k.0) ∷ k.1 = slice_split-cons_no is_hyphen b u other ∙ ap (onto_first b) k.2 in
    by_next (s ++ b ∷ k.0) k.1 (after_stage stage (s ++ b ∷ k.0)) (sym (append_assoc s (b ∷ []) k.0)) refl
    (sym (ap (outcome stage e) (segments-prefix s (b ∷ u) (b ∷ k.0) k.1 h here)) ∙ is)
  where
    by_next :
        (x : List ℕ) (ss : List (List ℕ)) (o : Option Stage) → x ≡ (s ++ b ∷ []) ++ (first_of u).0 → after_stage stage x ≡ o →
        found_after e (index_after stage e x) ss o ≡ Some f → IsBegun stage (s ++ b ∷ [])
    by_next x ss None same next found = absurd cc
    by_next x ss (Some after) same next found = (begun_parts stage (s ++ b ∷ []) (first_of u).0 (subst (IsBegun stage) same (after_begun stage after x next))).0

-- ---- the end of a subtag, at a hyphen or at the end of the text

pub outcome-ended :
    (stage : Stage) (e : Ends) (s u : List ℕ) (ss : List (List ℕ)) → segments (s ++ u) ≡ s ∷ ss →
    outcome stage e (segments (s ++ u)) ≡ found_after e (index_after stage e s) ss (after_stage stage s)
unfolding outcome
outcome-ended stage e s u ss at = ap (outcome stage e) at

-- ---- a subtag that has begun, filled to five letters, may stand wherever it has begun, and a tag may end after it

record IsFull (f : List ℕ) : Type 0 where
  long : 5 ≤ length f
  short : length f ≤ 8
  alphanumeric : are_alphanumeric f ≡ true

-- the classes of one are those of five letters and digits of its kind
abbrev full : Kind → Classes
full kind = classes_by kind 5

-- whether it may stand there, and a tag may end after it
abbrev finishes : Stage → Classes → Bool
finishes stage c = option_map_or may_end (after_by stage c) false

after_full : (stage : Stage) (kind : Kind) → (stage ≡ Start → has_letters kind ≡ true) → finishes stage (full kind) ≡ true
after_full stage kind first = grind (arith, nat_tests, first)

letters_a : (n : ℕ) → are_letters (replicate n 97) ≡ true
unfolding is_letter
letters_a zero = refl
letters_a (suc n) = letters_a n

filled : (stage : Stage) (s : List ℕ) → IsBegun stage s → IsFull (s ++ filling s)
filled stage s h = grind (arith, common_steps, length-append, length-replicate, list_all-append, letters_alphanumeric, letters_a)

filled_letters : (s : List ℕ) → are_letters s ≡ true → are_letters (s ++ filling s) ≡ true
filled_letters s h = list_all-append is_letter s (filling s) ∙ rw (h, letters_a (5 - length s)) refl

filled_finishes : (stage : Stage) (s : List ℕ) → IsBegun stage s → finishes stage (classes_of (s ++ filling s)) ≡ true
filled_finishes stage s begun = grind (arith, common_steps, filled stage s begun, after_full, letters-kind_of, filled_letters s, classes_of-kind, le-leb, lt-leb, ne_eqb)

found_once : (e : Ends) (n : ℕ) (o : Option Stage) → option_map_or may_end o false ≡ true → (f : Finding) × (found_after e n [] o ≡ Some f)
unfolding outcome
found_once e n None ends = absurd cc
found_once e n (Some after) ends = (found_by after (end_at after n e), rw ends refl)

-- where the last subtag is filled, something is found
pub filled_found : (stage : Stage) (e : Ends) (s : List ℕ) → IsBegun stage s → (f : Finding) × (outcome stage e (segments (s ++ filling s)) ≡ Some f)
unfolding outcome
filled_found stage e s begun =
    rw (segments-one (s ++ filling s) (filled stage s begun).alphanumeric) (found_once e _ _ (filled_finishes stage s begun))
