-- The rule and its test say the same: one private list spells a text, and it is what stands between the hyphens.
use Rattle.langtag_scan.proofs.Prelude.{◌≡◌, ◌↔◌, ℕ, true, Bool, IsTrue, List, [], ◌∷◌, drop, map, ◌&&◌, refl, sym, ap, ◌∙◌, arith, and_parts, common_steps}
use Rattle.langtag_scan.specs.Grammar.{fold_text, are_alike, is_mark, is_private_subtag, PrivateUse, IsWellFormedPrivateUse, private_use_flat, join, subtags, IsPrivate}
use Rattle.langtag_scan.proofs.Laws.{each_test-fold, alike_subtags_test, classes-fold, is_mark-fold, of_one, of_private_subtag, mark_alphanumeric, each_from_test, test_from_each, each_subtag, subtags-joined, join-subtags, length-after_first}
use Rattle.langtag_private.specs.PrivateUse.{EachPrivateUseSpelling}
use Rattle.langtag_private.specs.Decided.{are_private, is_mark_alone, are_private_use, is_private_use_text}

-- one text, one list
pub subtags-private : (text : List ℕ) (p : PrivateUse) → IsWellFormedPrivateUse p → join (private_use_flat p) ≡ text → subtags text ≡ private_use_flat p
subtags-private text p fits joined =
    ap subtags (sym joined) ∙ subtags-joined (private_use_flat p) (of_one p.mark (mark_alphanumeric p.mark fits.mark), each_subtag is_private_subtag of_private_subtag p.subtags fits.subtags)

pub others_spelled : (text : List ℕ) (others : List (List ℕ)) → others ≡ drop 1 (subtags text) → EachPrivateUseSpelling text (λ members. others ≡ members)
others_spelled text others list p fits joined = list ∙ ap (drop 1) (subtags-private text p fits joined)

IsPrivate-from_list : (ss : List (List ℕ)) (text : List ℕ) → join ss ≡ text → are_private_use ss ≡ true → IsPrivate text
unfolding IsPrivate
IsPrivate-from_list [] text joined h = absurd cc
IsPrivate-from_list (m ∷ []) text joined h = absurd cc
IsPrivate-from_list ([] ∷ s ∷ ss) text joined h = absurd cc
IsPrivate-from_list ((b ∷ c ∷ m) ∷ s ∷ ss) text joined h = absurd cc
IsPrivate-from_list ((b ∷ []) ∷ s ∷ ss) text joined h =
    let k = and_parts (is_mark b) (are_private (s ∷ ss)) h in
    (record { mark = b; subtags = s ∷ ss }, record { mark = k.0; some = omega arith; subtags = each_from_test is_private_subtag (s ∷ ss) k.1 }, joined)

-- from the test to the rule
pub IsPrivate-from_test : (text : List ℕ) → IsTrue (is_private_use_text text) → IsPrivate text
IsPrivate-from_test text h = IsPrivate-from_list (subtags text) text (join-subtags text) h

-- and back
pub is_private_use-from_rule : (text : List ℕ) → IsPrivate text → IsTrue (is_private_use_text text)
unfolding IsPrivate
is_private_use-from_rule text r = grind (arith, common_steps, subtags-private, test_from_each)

-- both ways, of an answer that is the test
pub IsPrivate-decided : (text : List ℕ) (answer : Bool) → answer ≡ is_private_use_text text → IsTrue answer ↔ IsPrivate text
IsPrivate-decided text answer same = (λ h. IsPrivate-from_test text (sym same ∙ h), λ r. same ∙ is_private_use-from_rule text r)

-- the steps from the one to the other
pub ruleset private_rules = (IsPrivate-from_test, is_private_use-from_rule, IsPrivate-decided)

-- a private use part in another case is one
alike_mark : (s : List ℕ) → is_mark_alone (fold_text s) ≡ is_mark_alone s
alike_mark s = grind (arith, common_steps, is_mark-fold)

alike_lists : (texts : List (List ℕ)) → are_private_use (map fold_text texts) ≡ are_private_use texts
alike_lists [] = refl
alike_lists (mark ∷ []) = refl
alike_lists (mark ∷ first ∷ others) =
    ap (λ is. is && are_private (map fold_text (first ∷ others))) (alike_mark mark)
    ∙ ap (λ are. is_mark_alone mark && are) (each_test-fold is_private_subtag (λ s. ap (λ c. c.private_subtag) (classes-fold s)) (first ∷ others))

pub alike_private_use : (t u : List ℕ) → IsTrue (are_alike t u) → IsTrue (is_private_use_text t) → IsPrivate u
alike_private_use t u alike is = IsPrivate-from_test u (alike_subtags_test are_private_use alike_lists t u alike is)

-- ---- the subtags after the mark

-- they are private use subtags
pub are_private-from_test : (text : List ℕ) → IsTrue (is_private_use_text text) → IsTrue (are_private (drop 1 (subtags text)))
are_private-from_test text h = grind (arith, common_steps, and_parts)

-- what stands after the mark
pub ruleset after_mark = (are_private-from_test, length-after_first)
