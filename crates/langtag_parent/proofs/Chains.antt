-- The chain of a tag of any kind. A tag has only one chain.
use Rattle.langtag_scan.proofs.Prelude.{◌≡◌, ℕ, ◌≤◌, inl, inr, List, [], ◌∷◌, length, refl, sym, ◌∙◌, arith, common_steps}
use Rattle.langtag_scan.specs.Grammar.{EachRecord, IsNormal, IsTag, grandfathered_tags, irregular_texts}
use Rattle.langtag_scan.proofs.Laws.{normal_or_not, of_primary, length-join}
use Rattle.langtag_private.proofs.Rules.{is_private_use-from_rule}
use Rattle.langtag_scan.proofs.IrregularTexts.{alike_some}
use Rattle.langtag_parent.specs.Chain.{IsChain, unless_empty, whole_chain}

pub other_chain : (text : List ℕ) (list : List (List ℕ)) → (IsNormal text → ⊥) → list ≡ text ∷ [] → IsChain text list
unfolding IsNormal
other_chain text list never is = record { part = λ r spells. absurd (never (r, spells)); absent = λ _. is }

pub normal_chain : (text : List ℕ) (list : List (List ℕ)) → IsNormal text → EachRecord text (λ r. list ≡ whole_chain r) → IsChain text list
normal_chain text list normal is = record { part = is; absent = λ never. absurd (never normal) }

pub one_chain : (text : List ℕ) (a b : List (List ℕ)) → IsChain text a → IsChain text b → a ≡ b
unfolding IsNormal
one_chain text a b x y = elim (normal_or_not text) [
  | inl normal ↦ x.part normal.0 normal.1 ∙ sym (y.part normal.0 normal.1)
  | inr never ↦ x.absent never ∙ sym (y.absent never)
]

pub not_empty : (text : List ℕ) → 1 ≤ length text → unless_empty text ≡ text ∷ []
not_empty [] some = absurd (omega (arith, some))
not_empty (b ∷ text) some = refl

-- no tag is empty
pub some_tag : (t : List ℕ) → IsTag t → 1 ≤ length t
unfolding IsTag IsNormal grandfathered_tags irregular_texts
some_tag t tag = grind (arith, common_steps, length-join, of_primary, is_private_use-from_rule [], alike_some [])
