-- The one list that spells a text is found again in it, and the tests of its subtags say whether there is one.
use Rattle.langtag_scan.proofs.Prelude.{◌≡◌, ◌↔◌, ℕ, Bool, true, IsTrue, List, [], ◌∷◌, drop, refl, ap, ◌∙◌, arith, map, rules, list_all, AllByRecursion, flat_map, and_parts, common_steps, nat_tests}
use Rattle.langtag_scan.specs.Grammar.{fold_text, are_alike, is_singleton, is_extension_subtag, Extension, IsWellFormedExtension, extension_flat, join, subtags}
use Rattle.langtag_scan.proofs.Laws.{each_test-fold, subtags_test-fold, alike_subtags_test, classes-fold, length-fold, join-fold, IsSubtag, of_one, of_extension_subtag, singleton_alphanumeric, each_from_test, test_from_each, each_subtag, subtags-joined, join-subtags, length-after_first, each-append}
use Rattle.langtag_scan.proofs.BoolFacts.{between_true}
use Rattle.langtag_extension.specs.ExtensionTexts.{goes_on, opens, put_first, groups, group_texts, extension_texts}
use Rattle.langtag_extension.specs.Decided.{is_singleton_alone, is_extension_list, is_extension_text, are_extension_texts, is_extensions_text, are_extension_subtags}
use Rattle.langtag_extension.specs.Spelling.{extension_spelling, SpellsExtension, IsExtension, SpellsExtensions, IsExtensions}
use Rattle.langtag_extension.proofs.ExtensionLookUp.{groups-first, join-group_texts, join-spellings}

-- ---- one extension

-- no subtag after the singleton opens an extension
goes_on-extension_subtag : (s : List ℕ) → is_extension_subtag s ≡ true → goes_on s ≡ true
unfolding is_extension_subtag
goes_on-extension_subtag s h = grind (arith, common_steps, and_parts, between_true)

goes_on-each : (ss : List (List ℕ)) → AllByRecursion (λ s. IsTrue (is_extension_subtag s)) ss → list_all goes_on ss ≡ true
goes_on-each [] fits = refl
goes_on-each (s ∷ ss) fits = rw (goes_on-extension_subtag s fits.0, goes_on-each ss fits.1) refl

-- each of an extension's subtags is one to eight letters and digits
subtags-flat : (e : Extension) → IsWellFormedExtension e → AllByRecursion IsSubtag (extension_flat e)
subtags-flat e fits = (of_one e.singleton (singleton_alphanumeric e.singleton fits.singleton), each_subtag is_extension_subtag of_extension_subtag e.subtags fits.subtags)

-- the subtags of an extension's text
pub subtags_spelled : (e : Extension) (text : List ℕ) → SpellsExtension e text → subtags text ≡ extension_flat e
subtags_spelled e text spells = grind (arith, common_steps, subtags-joined (extension_flat e) (subtags-flat e spells.member), subtags-flat e spells.member)

-- from the rule to the test
pub is_extension_text-from_rule : (text : List ℕ) → IsExtension text → IsTrue (is_extension_text text)
is_extension_text-from_rule text (e, spells) = search (rules, subtags_spelled, test_from_each)

-- the extension that the subtags are
extension_of_list : (ss : List (List ℕ)) → is_extension_list ss ≡ true → (e : Extension) × IsWellFormedExtension e × (extension_flat e ≡ ss)
extension_of_list [] pass = absurd cc
extension_of_list (s ∷ []) pass = absurd cc
extension_of_list ([] ∷ s ∷ ss) pass = absurd cc
extension_of_list ((b ∷ c ∷ bs) ∷ s ∷ ss) pass = absurd cc
extension_of_list ((b ∷ []) ∷ s ∷ ss) pass =
    let both = and_parts (is_singleton b) (are_extension_subtags (s ∷ ss)) pass in
    (record { singleton = b; subtags = s ∷ ss }, record { singleton = both.0; some = omega arith; subtags = each_from_test is_extension_subtag (s ∷ ss) both.1 }, refl)

-- from the test to the rule
pub IsExtension-from_test : (text : List ℕ) → IsTrue (is_extension_text text) → IsExtension text
IsExtension-from_test text pass = grind (arith, common_steps, extension_of_list (subtags text) pass, join-subtags text)

-- an answer that is the test decides the rule
pub IsExtension-decided : (text : List ℕ) (answer : Bool) → answer ≡ is_extension_text text → IsTrue answer ↔ IsExtension text
IsExtension-decided text answer tested = grind (arith, common_steps, IsExtension-from_test text, is_extension_text-from_rule text)

-- an extension in another case is one
alike_singleton : (s : List ℕ) → is_singleton_alone (fold_text s) ≡ is_singleton_alone s
alike_singleton [] = refl
alike_singleton (b ∷ []) = ap (λ c. c.singleton) (classes-fold (b ∷ []))
alike_singleton (b ∷ c ∷ s) = refl

alike_lists : (texts : List (List ℕ)) → is_extension_list (map fold_text texts) ≡ is_extension_list texts
alike_lists [] = refl
alike_lists (singleton ∷ []) = refl
alike_lists (singleton ∷ first ∷ others) =
    rw (alike_singleton singleton, each_test-fold is_extension_subtag (λ s. ap (λ c. c.extension_subtag) (classes-fold s)) (first ∷ others)) refl

pub alike_extension : (t u : List ℕ) → IsTrue (are_alike t u) → IsTrue (is_extension_text t) → IsExtension u
alike_extension t u alike is = IsExtension-from_test u (alike_subtags_test is_extension_list alike_lists t u alike is)

-- the steps from the one to the other
pub ruleset extension_rules = (IsExtension-from_test, is_extension_text-from_rule, IsExtension-decided)

-- they are subtags of an extension
pub are_extension_subtags-from_test : (text : List ℕ) → IsTrue (is_extension_text text) → IsTrue (are_extension_subtags (drop 1 (subtags text)))
are_extension_subtags-from_test text pass = grind (arith, common_steps, and_parts)

-- what stands after the singleton
pub ruleset after_singleton = (are_extension_subtags-from_test, length-after_first)

-- ---- a list of extensions

-- the subtags of all extensions begin with a singleton
opens-flat : (es : List Extension) → opens (flat_map extension_flat es) ≡ true
opens-flat [] = refl
opens-flat (e ∷ es) = refl

-- the subtags of all extensions, in groups, are those of each
groups-flat : (es : List Extension) → AllByRecursion IsWellFormedExtension es → groups (flat_map extension_flat es) ≡ map extension_flat es
groups-flat [] fits = refl
groups-flat (e ∷ es) fits = grind (arith, common_steps, groups-first, goes_on-each, opens-flat, groups-flat es fits.1)

-- all of them are subtags, so they are found again in their join

pub all_subtags-flat : (es : List Extension) → AllByRecursion IsWellFormedExtension es → AllByRecursion IsSubtag (flat_map extension_flat es)
all_subtags-flat [] fits = tt
all_subtags-flat (e ∷ es) fits = each-append IsSubtag (extension_flat e) (flat_map extension_flat es) (subtags-flat e fits.0) (all_subtags-flat es fits.1)

map-spelling : (es : List Extension) → map join (map extension_flat es) ≡ map extension_spelling es
map-spelling [] = refl
map-spelling (e ∷ es) = ap (λ ts. extension_spelling e ∷ ts) (map-spelling es)

-- the texts into which a text is cut are those of the extensions that spell it
pub extension_texts_spelled : (es : List Extension) (text : List ℕ) → SpellsExtensions es text → extension_texts text ≡ map extension_spelling es
extension_texts_spelled es text spells = grind (arith, common_steps, groups-flat es spells.members, map-spelling es, subtags-joined, all_subtags-flat)

are_extension_texts_spelled : (es : List Extension) → AllByRecursion IsWellFormedExtension es → are_extension_texts (map extension_spelling es) ≡ true
are_extension_texts_spelled [] fits = refl
are_extension_texts_spelled (e ∷ es) fits = grind (arith, common_steps, is_extension_text-from_rule, fits.0, are_extension_texts_spelled es fits.1)

-- from the rule to the test
pub is_extensions_text-from_rule : (text : List ℕ) → IsExtensions text → IsTrue (is_extensions_text text)
is_extensions_text-from_rule text (es, spells) = grind (arith, nat_tests, extension_texts_spelled es text spells, are_extension_texts_spelled es spells.members)

-- the extensions that the texts are
extensions_of_texts :
    (ts : List (List ℕ)) → are_extension_texts ts ≡ true →
    (es : List Extension) × AllByRecursion IsWellFormedExtension es × (map extension_spelling es ≡ ts)
extensions_of_texts [] pass = ([], tt, refl)
extensions_of_texts (t ∷ ts) pass =
    let both = and_parts (is_extension_text t) (are_extension_texts ts) pass in
    let first = IsExtension-from_test t both.0 in
    let others = extensions_of_texts ts both.1 in
    (first.0 ∷ others.0, (first.1.member, others.1), ap (λ x. x ∷ map extension_spelling others.0) first.1.joined ∙ ap (λ xs. t ∷ xs) others.2)

-- from the test to the rule
pub IsExtensions-from_test : (text : List ℕ) → IsTrue (is_extensions_text text) → IsExtensions text
IsExtensions-from_test text pass = grind (arith, common_steps, extensions_of_texts, join-spellings, join-group_texts, join-subtags)

-- an answer that is the test decides the rule
pub IsExtensions-decided : (text : List ℕ) (answer : Bool) → answer ≡ is_extensions_text text → IsTrue answer ↔ IsExtensions text
IsExtensions-decided text answer tested = grind (arith, common_steps, IsExtensions-from_test text, is_extensions_text-from_rule text)

-- extensions in another case are cut at the same subtags
opens-fold : (group : List (List ℕ)) → opens (map fold_text group) ≡ opens group
opens-fold group = grind (arith, common_steps, length-fold)

put_first-fold : (s : List ℕ) (gs : List (List (List ℕ))) → put_first (fold_text s) (map (map fold_text) gs) ≡ map (map fold_text) (put_first s gs)
put_first-fold s gs = grind (arith, common_steps, opens-fold)

groups-fold : (ss : List (List ℕ)) → groups (map fold_text ss) ≡ map (map fold_text) (groups ss)
groups-fold [] = refl
groups-fold (s ∷ ss) = ap (put_first (fold_text s)) (groups-fold ss) ∙ put_first-fold s (groups ss)

are_extension_texts-fold : (gs : List (List (List ℕ))) → are_extension_texts (map join (map (map fold_text) gs)) ≡ are_extension_texts (map join gs)
are_extension_texts-fold [] = refl
are_extension_texts-fold (group ∷ gs) =
    rw (join-fold group, subtags_test-fold is_extension_list alike_lists (join group), are_extension_texts-fold gs) refl

alike_extension_lists : (ss : List (List ℕ)) → are_extension_texts (group_texts (map fold_text ss)) ≡ are_extension_texts (group_texts ss)
alike_extension_lists ss = ap (λ gs. are_extension_texts (map join gs)) (groups-fold ss) ∙ are_extension_texts-fold (groups ss)

pub alike_extensions : (t u : List ℕ) → IsTrue (are_alike t u) → IsTrue (is_extensions_text t) → IsExtensions u
alike_extensions t u alike are =
    IsExtensions-from_test u (alike_subtags_test (λ ss. are_extension_texts (group_texts ss)) alike_extension_lists t u alike are)

-- the steps from the one to the other
pub ruleset extensions_rules = (IsExtensions-from_test, is_extensions_text-from_rule, IsExtensions-decided)
