-- The one list of variants that spells a text is the list of its subtags, and the test says whether there is one.
use Rattle.langtag_scan.proofs.Prelude.{◌≡◌, ◌↔◌, ℕ, Bool, IsTrue, List, map, sym, ◌∙◌, ap, arith, common_steps}
use Rattle.langtag_scan.specs.Grammar.{fold_text, are_alike, is_variant, subtags}
use Rattle.langtag_scan.proofs.Laws.{each_test-fold, alike_subtags_test, classes-fold, of_variant, each_from_test, test_from_each, each_subtag, subtags-joined, join-subtags, length-subtags}
use Rattle.langtag_place.specs.Decided.{are_variants, is_variants}
use Rattle.langtag_place.specs.Variants.{IsVariants, SpellsVariants}

-- one text, one list
pub subtags-spelled : (variants : List (List ℕ)) (text : List ℕ) → SpellsVariants variants text → subtags text ≡ variants
subtags-spelled variants text spells = ap subtags (sym spells.joined) ∙ subtags-joined variants (each_subtag is_variant of_variant variants spells.members)

-- where the test passes, the text's subtags spell it
pub SpellsVariants-subtags : (text : List ℕ) → IsTrue (is_variants text) → SpellsVariants (subtags text) text
SpellsVariants-subtags text pass = record { members = each_from_test is_variant (subtags text) pass; joined = join-subtags text }

-- from the test to the rule
pub IsVariants-from_test : (text : List ℕ) → IsTrue (is_variants text) → IsVariants text
IsVariants-from_test text pass = (subtags text, SpellsVariants-subtags text pass)

-- from the rule to the test
pub is_variants-from_rule : (text : List ℕ) → IsVariants text → IsTrue (is_variants text)
is_variants-from_rule text spelled = grind (arith, common_steps, subtags-spelled, test_from_each)

-- an answer that is the test decides the rule
pub IsVariants-decided : (text : List ℕ) (answer : Bool) → answer ≡ is_variants text → IsTrue answer ↔ IsVariants text
IsVariants-decided text answer tested = grind (arith, common_steps, IsVariants-from_test text, is_variants-from_rule text)

-- the steps from the one to the other
pub ruleset variants_rules = (SpellsVariants-subtags, IsVariants-from_test, is_variants-from_rule, IsVariants-decided)

-- variants in other cases are variants
alike_lists : (texts : List (List ℕ)) → are_variants (map fold_text texts) ≡ are_variants texts
alike_lists = each_test-fold is_variant (λ s. ap (λ c. c.variant) (classes-fold s))

pub alike_variants : (t u : List ℕ) → IsTrue (are_alike t u) → IsTrue (is_variants t) → IsVariants u
alike_variants t u alike are = IsVariants-from_test u (alike_subtags_test are_variants alike_lists t u alike are)

-- no more of them than `count` can answer
pub ruleset few_variants = (length-subtags)

-- what the first and the last variant are
pub ruleset variants_spelled = (subtags-spelled)
