-- Texts and the lists of subtags that stand between their hyphens: joining and splitting undo one another, and a list of
-- members of a class is found again in its join.
use Rattle.langtag_scan.proofs.Prelude.{◌≡◌, ℕ, ◌<◌, ◌≤◌, ◌+◌, List, length, drop, arith, Bool, true, false, [], ◌∷◌, ◌++◌, refl, ap, ◌∙◌, Option, Bor, MatchOption, All, IsTrue, get_or, and_parts, take-append-drop, drop_more, onto_first, AllByRecursion, list_all, slice_split-cons_yes, slice_split-cons_no, slice_split_none, slice_split_at, length-slice_split, join_with_byte-slice_split, All-nil, All-cons, All-head, All-tail, All-from_recursion, count_by-le-length, common_steps, IsCharBoundary-after_ascii, length-drop, slice_range, nat_tests}
use Rattle.langtag_scan.specs.Grammar.{is_hyphen, IsHyphenFree, join, segments, subtags, segments_left}
use Rattle.std.proofs.lemmas.List.Elements.{All-weaker}
use Rattle.langtag_scan.proofs.Joins.{length-join}
use Rattle.langtag_scan.proofs.SubtagFacts.{IsSubtag, hyphen_free}

-- ---- the first and the last segment

-- the first segment, and those of what stands after its hyphen
pub segments_left-first :
    (text first : List ℕ) (rest : Option (Bor (List ℕ))) → IsHyphenFree first →
    MatchOption rest (text ≡ first) (λ r. text ≡ first ++ 45 ∷ r.now) → segments text ≡ first ∷ segments_left rest
segments_left-first text first rest free joined = grind (arith, common_steps, slice_split_none, slice_split_at)

-- the segments before and after any hyphen
pub slice_split-append : (prefix back : List ℕ) → segments (prefix ++ 45 ∷ back) ≡ segments prefix ++ segments back
slice_split-append [] back = refl
slice_split-append (b ∷ prefix) back =
    grind (arith, common_steps, slice_split-append prefix back, slice_split-cons_yes, slice_split-cons_no, length-slice_split)

-- one more segment, after a hyphen
pub slice_split-push : (prefix last : List ℕ) → IsHyphenFree last → segments (prefix ++ 45 ∷ last) ≡ segments prefix ++ last ∷ []
slice_split-push prefix last free = slice_split-append prefix last ∙ ap (λ back. segments prefix ++ back) (slice_split_none is_hyphen last free)

-- the last segment, and those of what stands before its hyphen
pub segments_left-last :
    (text last : List ℕ) (prefix : Option (Bor (List ℕ))) → IsHyphenFree last →
    MatchOption prefix (text ≡ last) (λ f. text ≡ f.now ++ 45 ∷ last) → segments text ≡ segments_left prefix ++ last ∷ []
segments_left-last text last prefix free joined = grind (arith, common_steps, slice_split_none, slice_split-push)

-- ---- no segment holds a hyphen

onto_first-hyphen_free : (b : ℕ) (texts : List (List ℕ)) → is_hyphen b ≡ false → All IsHyphenFree texts → All IsHyphenFree (onto_first b texts)
onto_first-hyphen_free b [] kept free = grind (arith, common_steps, All-cons, All-nil)
onto_first-hyphen_free b (text ∷ texts) kept free =
    grind (arith, common_steps, All-cons, All-head IsHyphenFree text texts free, All-tail IsHyphenFree text texts free)

pub segments-hyphen_free : (text : List ℕ) → All IsHyphenFree (segments text)
segments-hyphen_free [] = All-cons IsHyphenFree [] [] (All-nil (λ c. is_hyphen c ≡ false)) (All-nil IsHyphenFree)
segments-hyphen_free (b ∷ text) = grind (arith, nat_tests, slice_split-cons_yes, slice_split-cons_no, onto_first-hyphen_free, segments-hyphen_free text)

-- ---- joining and splitting

-- texts with no hyphen are found again where they were joined
pub segments-join : (first : List ℕ) (texts : List (List ℕ)) → All IsHyphenFree (first ∷ texts) → segments (join (first ∷ texts)) ≡ first ∷ texts
segments-join first [] free = slice_split_none is_hyphen first (All-head IsHyphenFree first [] free)
segments-join first (second ∷ texts) free =
    slice_split_at is_hyphen first 45 (join (second ∷ texts)) (All-head IsHyphenFree first (second ∷ texts) free) refl
    ∙ ap (λ rest. first ∷ rest) (segments-join second texts (All-tail IsHyphenFree first (second ∷ texts) free))

-- the subtags of a text that has some
pub subtags-segments : (text : List ℕ) → 0 < length text → subtags text ≡ segments text
subtags-segments text some = grind (arith, common_steps)

-- the subtags of a text, joined, are the text
pub join-subtags : (text : List ℕ) → join (subtags text) ≡ text
join-subtags [] = refl
join-subtags (b ∷ text) = join_with_byte-slice_split 45 (b ∷ text)

-- a list passes the test of a class where each member does, and only there
pub each_from_test : (test : List ℕ → Bool) (ss : List (List ℕ)) → list_all test ss ≡ true → AllByRecursion (λ s. IsTrue (test s)) ss
each_from_test test [] h = tt
each_from_test test (s ∷ ss) h = let k = and_parts (test s) (list_all test ss) h in (k.0, each_from_test test ss k.1)

pub test_from_each : (test : List ℕ → Bool) (ss : List (List ℕ)) → AllByRecursion (λ s. IsTrue (test s)) ss → list_all test ss ≡ true
test_from_each test [] h = refl
test_from_each test (s ∷ ss) h = rw (h.0, test_from_each test ss h.1) refl

-- what holds of each member of two lists holds of each member of both
pub each-append : {X : Type 0} (P : X → Type 0) (xs ys : List X) → AllByRecursion P xs → AllByRecursion P ys → AllByRecursion P (xs ++ ys)
each-append P [] ys these those = those
each-append P (x ∷ xs) ys these those = (these.0, each-append P xs ys these.1 those)

-- the members of a class of subtags are subtags
pub each_subtag :
    (test : List ℕ → Bool) → ((s : List ℕ) → test s ≡ true → IsSubtag s) → (ss : List (List ℕ)) →
    AllByRecursion (λ s. IsTrue (test s)) ss → AllByRecursion IsSubtag ss
each_subtag test shows [] h = tt
each_subtag test shows (s ∷ ss) h = (shows s h.0, each_subtag test shows ss h.1)

-- subtags that were joined are the segments of the join
pub segments-joined : (s : List ℕ) (ss : List (List ℕ)) → AllByRecursion IsSubtag (s ∷ ss) → segments (join (s ∷ ss)) ≡ s ∷ ss
segments-joined s ss fits = grind (arith, common_steps, segments-join, All-weaker, hyphen_free, All-from_recursion)

-- and its subtags
pub subtags-joined : (ss : List (List ℕ)) → AllByRecursion IsSubtag ss → subtags (join ss) ≡ ss
subtags-joined [] fits = refl
subtags-joined (s ∷ ss) fits = subtags-segments (join (s ∷ ss)) (omega (arith, length-join s ss, fits.0.some)) ∙ segments-joined s ss fits

-- ---- how many subtags there are

-- at most one more than bytes
pub length-subtags : (text : List ℕ) → length (subtags text) ≤ length text + 1
length-subtags [] = omega arith
length-subtags (b ∷ text) = omega (arith, length-slice_split is_hyphen (b ∷ text), count_by-le-length is_hyphen (b ∷ text))

pub length-after_first : (text : List ℕ) → length (drop 1 (subtags text)) ≤ length text
length-after_first text = omega (arith, length-drop 1 (subtags text), length-subtags text)

-- ---- cuts

-- at a hyphen
pub cut_at :
    (text before after : List ℕ) (i j : ℕ) → i + 1 ≡ j → before ≡ slice_range text 0 i → after ≡ drop j text → i < length text → get_or text i 0 ≡ 45 →
    text ≡ before ++ 45 ∷ after
cut_at text before after i j next is_before is_after within hyphen = grind (arith, common_steps, take-append-drop i text, drop_more text i 0)

-- where a text is cut after a hyphen
pub ruleset splits = (IsCharBoundary-after_ascii)
