-- Subtags that are put into an output, after a text.
use Rattle.langtag_scan.proofs.Prelude.{◌≡◌, ℕ, ◌≤◌, List, [], ◌∷◌, ◌++◌, length, fold, Option, Some, None, sym, ap, subst, arith, append_assoc, append-nil, length-append, flat_map, fold-append, common_steps, option_map}
use Rattle.langtag_scan.specs.Grammar.{PrivateUse, Record, IsWellFormed, extension_flat, private_use_flat, private_part_flat, one_flat, flat, spell, join}
use Rattle.langtag_scan.proofs.Laws.{hyphenated, join-hyphenated, of_primary}
use Rattle.langtag_text.specs.declared.output.Output.{Output}
use Rattle.langtag_text.specs.Output.{HasText, Pushes, with_subtag}
use Rattle.langtag_text.proofs.WithSubtag.{with_subtag-some}

-- ---- a text and subtags

-- after a text with bytes, a hyphen stands before each
with_subtags-some : (text : List ℕ) (ss : List (List ℕ)) → 1 ≤ length text → fold with_subtag text ss ≡ text ++ hyphenated ss
with_subtags-some text [] some = sym (append-nil text)
with_subtags-some text (s ∷ ss) some = grind (arith, common_steps, with_subtag-some text s, with_subtags-some (text ++ 45 ∷ s) ss, length-append, append_assoc)

-- some that are joined already follow as each of them does
pub with_joined : (text s : List ℕ) (ss : List (List ℕ)) → 1 ≤ length s → with_subtag text (join (s ∷ ss)) ≡ fold with_subtag text (s ∷ ss)
unfolding with_subtag
with_joined text s ss some = grind (arith, common_steps, join-hyphenated s ss, append_assoc, with_subtags-some)

pub record_joined : (r : Record) → IsWellFormed r → fold with_subtag [] (flat r) ≡ spell r
unfolding with_subtag
record_joined r fits = sym (with_joined [] r.primary _ (of_primary r.primary fits.primary).some)

-- ---- several are put

pub pushes_both : (ss ts : List (List ℕ)) (old middle new : Output) → Pushes ss old middle → Pushes ts middle new → Pushes (ss ++ ts) old new
pushes_both ss ts old middle new these those first text has = grind (arith, common_steps, fold-append with_subtag text ss ts)

pub pushes_same : (ss ts : List (List ℕ)) (old new : Output) → ss ≡ ts → Pushes ss old new → Pushes ts old new
pushes_same ss ts old new same these = subst (λ us. Pushes us old new) same these

-- one, and what follows it
pub pushes_next :
    (s t : List ℕ) (ss : List (List ℕ)) (old middle new : Output) → s ≡ t → Pushes (s ∷ []) old middle → Pushes ss middle new → Pushes (t ∷ ss) old new
pushes_next s t ss old middle new same these those = pushes_both (t ∷ []) ss old middle new (pushes_same _ _ old middle (ap (λ u. u ∷ []) same) these) those

pub pushes_ended : (ss : List (List ℕ)) (out : Output) → ss ≡ [] → Pushes ss out out
pushes_ended ss out ended = pushes_same [] ss out out (sym ended) (λ first text has. has)

pub pushes_joined : (s : List ℕ) (ss : List (List ℕ)) (old new : Output) → 1 ≤ length s → Pushes (join (s ∷ ss) ∷ []) old new → Pushes (s ∷ ss) old new
pushes_joined s ss old new some these first text has = subst (HasText first new) (with_joined text s ss some) (these first text has)

pub private_pushed :
    (part : Option PrivateUse) (text : List ℕ) (old new : Output) → Some text ≡ option_map (λ p. join (private_use_flat p)) part → Pushes (text ∷ []) old new →
    Pushes (private_part_flat part) old new
private_pushed None text old new same these = absurd cc
private_pushed (Some p) text old new same these =
    let one : text ≡ join (private_use_flat p) = cc in
    pushes_joined (p.mark ∷ []) p.subtags old new (omega arith) (pushes_same _ _ old new (ap (λ t. t ∷ []) one) these)

-- ---- all of a record

pub record_pushed :
    (r : Record) (a b c d e f g : Output) → Pushes (r.primary ∷ r.extended) a b → Pushes (one_flat r.script) b c →
    Pushes (one_flat r.region) c d → Pushes r.variants d e → Pushes (flat_map extension_flat r.extensions) e f →
    Pushes (private_part_flat r.private_use) f g → Pushes (flat r) a g
record_pushed r a b c d e f g language script region variants extensions private_use =
    pushes_both (r.primary ∷ r.extended) _ a b g language
    (pushes_both (one_flat r.script) _ b c g script
    (pushes_both (one_flat r.region) _ c d g region
    (pushes_both r.variants _ d e g variants
    (pushes_both (flat_map extension_flat r.extensions) _ e f g extensions private_use))))
