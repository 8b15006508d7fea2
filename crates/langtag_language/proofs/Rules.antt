-- A rule and its test say the same: one list of subtags spells a text, and it is what stands between the hyphens.
use Rattle.langtag_scan.proofs.Prelude.{◌≡◌, ◌↔◌, ℕ, true, Bool, IsTrue, List, [], ◌∷◌, map, refl, sym, ap, ◌∙◌, arith, leb-true, le-leb, and_parts, nil_from_length, length-map, common_steps}
use Rattle.langtag_scan.specs.Grammar.{fold_text, are_alike, is_extended, join, subtags}
use Rattle.langtag_scan.proofs.Laws.{each_test-fold, alike_subtags_test, classes-fold, length-fold, of_primary, of_extended, each_from_test, test_from_each, each_subtag, subtags-joined, join-subtags}
use Rattle.langtag_language.specs.Language.{SpellsLanguageExtension, IsLanguageExtension, SpellsLanguage, IsLanguage}
use Rattle.langtag_language.specs.Decided.{are_extended, are_extended_within, are_language_extension, are_language, is_language_extension, is_language}

-- ---- extlang

-- one text, one list
pub subtags-extension : (extended : List (List ℕ)) (text : List ℕ) → SpellsLanguageExtension extended text → subtags text ≡ extended
subtags-extension extended text spells = ap subtags (sym spells.joined) ∙ subtags-joined extended (each_subtag is_extended of_extended extended spells.members)

-- from the test to the rule
pub SpellsLanguageExtension-from_test : (text : List ℕ) → IsTrue (is_language_extension text) → SpellsLanguageExtension (subtags text) text
SpellsLanguageExtension-from_test text h = grind (arith, common_steps, join-subtags, and_parts, each_from_test, leb-true)

pub IsLanguageExtension-from_test : (text : List ℕ) → IsTrue (is_language_extension text) → IsLanguageExtension text
IsLanguageExtension-from_test text h = (subtags text, SpellsLanguageExtension-from_test text h)

-- each subtag is an extended one
pub are_extended-from_test : (text : List ℕ) → IsTrue (is_language_extension text) → IsTrue (are_extended (subtags text))
are_extended-from_test text h = test_from_each is_extended (subtags text) (SpellsLanguageExtension-from_test text h).members

-- and back
pub is_language_extension-from_rule : (text : List ℕ) → IsLanguageExtension text → IsTrue (is_language_extension text)
is_language_extension-from_rule text r = grind (arith, common_steps, subtags-extension, le-leb, test_from_each)

-- both ways, of an answer that is the test
pub IsLanguageExtension-decided : (text : List ℕ) (answer : Bool) → answer ≡ is_language_extension text → IsTrue answer ↔ IsLanguageExtension text
IsLanguageExtension-decided text answer same = (λ h. IsLanguageExtension-from_test text (sym same ∙ h), λ r. same ∙ is_language_extension-from_rule text r)

-- the steps from the one to the other
pub ruleset extension_rules = (SpellsLanguageExtension-from_test, IsLanguageExtension-from_test, is_language_extension-from_rule, IsLanguageExtension-decided)

-- subtags in other cases are as many, and of the same class
alike_extended : (room : ℕ) (texts : List (List ℕ)) → are_extended_within room (map fold_text texts) ≡ are_extended_within room texts
alike_extended room texts = rw (length-map texts fold_text, each_test-fold is_extended (λ s. ap (λ c. c.extended) (classes-fold s)) texts) refl

alike_extension_lists : (texts : List (List ℕ)) → are_language_extension (map fold_text texts) ≡ are_language_extension texts
alike_extension_lists [] = refl
alike_extension_lists (first ∷ others) = alike_extended 3 (first ∷ others)

pub alike_language_extension : (t u : List ℕ) → IsTrue (are_alike t u) → IsTrue (is_language_extension t) → IsLanguageExtension u
alike_language_extension t u alike is =
    IsLanguageExtension-from_test u (alike_subtags_test are_language_extension alike_extension_lists t u alike is)

-- what the subtags of a language extension are
pub ruleset extension_members = (SpellsLanguageExtension-from_test, are_extended-from_test)

-- ---- language

-- one text, one list
pub subtags-language :
    (primary : List ℕ) (extended : List (List ℕ)) (text : List ℕ) → SpellsLanguage primary extended text →
    subtags text ≡ primary ∷ extended
subtags-language primary extended text spells =
    ap subtags (sym spells.joined) ∙ subtags-joined (primary ∷ extended) (of_primary primary spells.first, each_subtag is_extended of_extended extended spells.others)

IsLanguage-from_list : (ss : List (List ℕ)) (text : List ℕ) → join ss ≡ text → are_language ss ≡ true → IsLanguage text
IsLanguage-from_list ss text joined h = grind (arith, common_steps, and_parts, each_from_test is_extended, leb-true, nil_from_length)

-- from the test to the rule
pub IsLanguage-from_test : (text : List ℕ) → IsTrue (is_language text) → IsLanguage text
IsLanguage-from_test text h = IsLanguage-from_list (subtags text) text (join-subtags text) h

-- and back
pub is_language-from_rule : (text : List ℕ) → IsLanguage text → IsTrue (is_language text)
is_language-from_rule text r = grind (arith, common_steps, subtags-language, test_from_each, le-leb)

-- both ways, of an answer that is the test
pub IsLanguage-decided : (text : List ℕ) (answer : Bool) → answer ≡ is_language text → IsTrue answer ↔ IsLanguage text
IsLanguage-decided text answer same = (λ h. IsLanguage-from_test text (sym same ∙ h), λ r. same ∙ is_language-from_rule text r)

-- a language in another case is a language
alike_language_lists : (texts : List (List ℕ)) → are_language (map fold_text texts) ≡ are_language texts
alike_language_lists texts = grind (arith, common_steps, classes-fold, length-fold, alike_extended)

pub alike_language : (t u : List ℕ) → IsTrue (are_alike t u) → IsTrue (is_language t) → IsLanguage u
alike_language t u alike is = IsLanguage-from_test u (alike_subtags_test are_language alike_language_lists t u alike is)

-- the steps from the one to the other
pub ruleset language_rules = (IsLanguage-from_test, is_language-from_rule, IsLanguage-decided)
