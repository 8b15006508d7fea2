-- What is known of a text while another of its subtags is read, and once it has ended.
use Rattle.langtag_scan.proofs.Prelude.{◌≡◌, ℕ, false, eqb, List, [], ◌∷◌, ◌++◌, length, Some, None, refl, sym, ap, ◌∙◌, arith, append_assoc, append-nil, ◌-◌, length_push, drop-append-le, drop_all, reverse-append, common_steps, length-append}
use Rattle.langtag_scan.specs.Grammar.{IsBegun, all_at, end_at, index_after, outcome, outcome_of, HasStopped, IsRefused, Stage, Start, after_stage, segments, is_hyphen, IsTag, IsViable, filling}
use Rattle.langtag_scan.specs.Machine.{Reads}
use Rattle.langtag_scan.specs.declared.ends.Ends.{Ends}
use Rattle.langtag_scan.specs.declared.finding.Finding.{Finding}
use Rattle.langtag_scan.proofs.Running.{filled_found, found_after, segments-one, segments-hyphen, outcome-begun, outcome-ended}
use Rattle.langtag_scan.proofs.FoundLaws.{tag_found, decided}
use Rattle.langtag_scan.proofs.StageLaws.{after_not_start, index_after-length}
use Rattle.langtag_scan.proofs.TagLaws.{viable_from_tag}
use Rattle.std.specs.List.{after_last}

-- before the first byte
pub reads_nothing : Reads [] Start (all_at 0)
reads_nothing = record { same = λ u. refl; index = refl }

-- a text of which nothing is found is refused
refused : (t : List ℕ) → ((f : Finding) → outcome_of t ≡ Some f → ⊥) → IsRefused t
refused t never = grind (arith, common_steps, decided t)

-- nothing is found of what begins so
stopped_from : (q : List ℕ) → ((u : List ℕ) (f : Finding) → outcome_of (q ++ u) ≡ Some f → ⊥) → HasStopped q
stopped_from q never = record { not_normal = λ u. (refused (q ++ u) (never u)).not_normal; not_private = λ u. (refused (q ++ u) (never u)).not_private }

-- ---- the bytes of another subtag

-- the bytes q are those of p and of the subtag s, which has begun after p and its last hyphen
pub record IsPartRead (p s q : List ℕ) (stage : Stage) (e : Ends) : Type 0 where
  pub split : p ++ s ≡ q
  pub last : after_last is_hyphen q ≡ s
  pub reads : Reads p stage e
  pub begun : IsBegun stage s

module _ {p s q : List ℕ} {stage : Stage} {e : Ends} (k : IsPartRead p s q stage e) where
  onward : (u : List ℕ) → outcome_of (q ++ u) ≡ outcome stage e (segments (s ++ u))
  onward u = ap (λ x. outcome_of (x ++ u)) (sym k.split) ∙ ap outcome_of (append_assoc p s u) ∙ k.reads.same (s ++ u)

  ends_at : index_after stage e s ≡ length q
  ends_at = index_after-length stage e s ∙ omega (arith, k.reads.index, length-append p s, ap length k.split)

  -- with its last subtag filled it is a tag
  pub reads_filled : IsTag (q ++ filling s)
  reads_filled = grind (arith, common_steps, filled_found stage e s k.begun, tag_found (q ++ filling s), onward (filling s), decided (q ++ filling s))

  pub reads_viable : IsViable q
  reads_viable = viable_from_tag q (filling s) reads_filled

  -- ---- a byte more: where something is found, the subtag goes on with it

  pub found_begun : (b : ℕ) (u : List ℕ) (f : Finding) → eqb b 45 ≡ false → outcome_of ((q ++ b ∷ []) ++ u) ≡ Some f → IsBegun stage (s ++ b ∷ [])
  found_begun b u f other is = grind (arith, common_steps, outcome-begun, onward, append_assoc)

  pub stuck_stops : (b : ℕ) → eqb b 45 ≡ false → (IsBegun stage (s ++ b ∷ []) → ⊥) → HasStopped (q ++ b ∷ [])
  stuck_stops b other stuck = stopped_from (q ++ b ∷ []) (λ u f is. stuck (found_begun b u f other is))

  -- ---- the subtag ends

  ended : (u : List ℕ) (ss : List (List ℕ)) → segments (s ++ u) ≡ s ∷ ss → outcome_of (q ++ u) ≡ found_after e (length q) ss (after_stage stage s)
  ended u ss at = onward u ∙ outcome-ended stage e s u ss at ∙ ap (λ i. found_after e i ss (after_stage stage s)) ends_at

  -- at the end of the text
  pub reads_ended : outcome_of q ≡ found_after e (length q) [] (after_stage stage s)
  reads_ended = ap outcome_of (sym (append-nil q)) ∙ ended [] [] (ap segments (append-nil s) ∙ segments-one s k.begun.alphanumeric)

  -- at a hyphen
  pub after_hyphen : (u : List ℕ) → outcome_of ((q ++ 45 ∷ []) ++ u) ≡ found_after e (length q) (segments u) (after_stage stage s)
  after_hyphen u = ap outcome_of (append_assoc q (45 ∷ []) u) ∙ ended (45 ∷ u) (segments u) (segments-hyphen s u k.begun.alphanumeric)

  -- after which nothing follows
  pub refused_stops : after_stage stage s ≡ None → HasStopped (q ++ 45 ∷ [])
  refused_stops next = grind (arith, common_steps, stopped_from (q ++ 45 ∷ []), after_hyphen)

  -- after which a stage follows
  pub reads_after : (after : Stage) → after_stage stage s ≡ Some after → Reads (q ++ 45 ∷ []) after (end_at after (length q) e)
  reads_after after next = grind (arith, common_steps, after_hyphen, length_push, after_not_start)

-- ---- what stands after the last hyphen

pub last-hyphen : (q : List ℕ) → after_last is_hyphen (q ++ 45 ∷ []) ≡ []
last-hyphen q = rw (reverse-append q (45 ∷ [])) (drop_all (length (q ++ 45 ∷ []) - 0) (q ++ 45 ∷ []) (omega arith))

pub last-push : (q : List ℕ) (b : ℕ) → eqb b 45 ≡ false → after_last is_hyphen (q ++ b ∷ []) ≡ after_last is_hyphen q ++ b ∷ []
last-push q b other = grind (arith, common_steps, reverse-append q (b ∷ []), length_push q b, drop-append-le)
