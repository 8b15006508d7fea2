-- The subtags of an extension, and those before a key, in its text.
use Rattle.langtag_scan.proofs.SubtagLists.{cut_at}
use Rattle.langtag_keyword.proofs.Common.{◌≡◌, ℕ, ◌≤◌, ◌<◌, ◌+◌, ◌-◌, Bool, true, false, List, [], ◌∷◌, ◌++◌, length, take, drop, get_or, Option, None, Some, suc, refl, ap, sym, subst, ◌∙◌, arith, cond, append-nil, zero, IsUtf8, IsCharBoundary-after_ascii, common_steps, length-append, AllByRecursion, list_any, option_map_or, length-slice_split, Extension, Record, IsWellFormed, is_hyphen, join, segments, subtags, NoHyphenWithin, hyphenated, length-join, IsSubtag, of_extension_subtag, each_subtag, subtags-joined, join-subtags, is_extension_subtag, SpellsExtension, IsExtension, find_extension, extension_found, length_with_hyphens, opens_keyword, before_key, is_new_key, keywords_after, are_alike, option_map}
use Rattle.langtag_scan.proofs.Prelude.{IsCharBoundary, get_or-append_seam, slice_split_at, slice_split_none, nat_tests}
use Rattle.langtag_scan.specs.Grammar.{IsHyphenFree}
use Rattle.std.proofs.lemmas.Str.{IsCharBoundary-start, IsCharBoundary-end}
use Rattle.langtag_scan.proofs.Laws.{join-append, length-hyphenated, take-join, length-subtags}
use Rattle.langtag_keyword.specs.Keywords.{subtags_of, each_once_after}
use Rattle.langtag_keyword.specs.Transform.{some_text}
use Rattle.langtag_keyword.specs.declared.keys.Keys.{Keys}

-- ---- the text of an extension without its singleton

join-first : (n : ℕ) (ss : List (List ℕ)) → 1 ≤ length ss → join ((n ∷ []) ∷ ss) ≡ n ∷ 45 ∷ join ss
join-first n [] some = absurd (omega (arith, some))
join-first n (s ∷ ss) some = refl

singleton-first : (e : Extension) (text : List ℕ) → SpellsExtension e text → text ≡ e.singleton ∷ 45 ∷ join e.subtags
singleton-first e text spells = sym spells.joined ∙ join-first e.singleton e.subtags spells.member.some

-- its subtags are those of the extension
pub subtags-after_singleton : (e : Extension) (text : List ℕ) → SpellsExtension e text → subtags (drop 2 text) ≡ e.subtags
subtags-after_singleton e text spells =
    ap (λ t. subtags (drop 2 t)) (singleton-first e text spells) ∙ subtags-joined e.subtags (each_subtag is_extension_subtag of_extension_subtag e.subtags spells.member.subtags)

-- and the text may be cut there
pub boundary-after_singleton : (text : List ℕ) → IsUtf8 text → IsExtension text → IsCharBoundary text 2
boundary-after_singleton text utf8 (e, spells) =
    let cut = singleton-first e text spells in
    IsCharBoundary-after_ascii text 1 utf8 (rw cut (omega arith)) (rw cut (omega arith))

-- no more than a number can count
pub ruleset few_subtags = (length-subtags)

-- ---- what stands before the first key

-- what stands from the first key on
abbrev pub from_key : (List ℕ → Bool) → List (List ℕ) → List (List ℕ)
from_key test [] = []
from_key test (s ∷ ss) = cond (test s) (s ∷ ss) (from_key test ss)

pub before-from : (test : List ℕ → Bool) (ss : List (List ℕ)) → before_key test ss ++ from_key test ss ≡ ss
before-from test [] = refl
before-from test (s ∷ ss) = grind (arith, common_steps, before-from test ss)

pub length-with_hyphens : (ss : List (List ℕ)) → length_with_hyphens ss ≡ length (hyphenated ss)
length-with_hyphens [] = refl
length-with_hyphens (s ∷ ss) = omega (arith, length-with_hyphens ss, length-append s (hyphenated ss))

pub length-more : (x : List ℕ) (xs : List (List ℕ)) → length_with_hyphens (x ∷ xs) - 1 ≡ length (join (x ∷ xs))
length-more x xs = omega (arith, length-join x xs, length-with_hyphens xs)

take-before : (bs ys : List (List ℕ)) → take (length_with_hyphens bs - 1) (join (bs ++ ys)) ≡ join bs
take-before [] ys = refl
take-before (x ∷ xs) ys = rw (length-more x xs) (take-join x xs ys)

boundary-before : (bs ys : List (List ℕ)) → IsUtf8 (join (bs ++ ys)) → IsCharBoundary (join (bs ++ ys)) (length_with_hyphens bs - 1)
boundary-before [] ys utf8 = IsCharBoundary-start (join ys) utf8
boundary-before (x ∷ xs) ys utf8 = rw (length-more x xs) (rw (join-append x xs ys) (by_rest ys))
  where
    by_rest : (zs : List (List ℕ)) → IsCharBoundary (join (x ∷ xs) ++ hyphenated zs) (length (join (x ∷ xs)))
    by_rest [] = rw (append-nil (join (x ∷ xs))) (IsCharBoundary-end (join (x ∷ xs)))
    by_rest (z ∷ zs) = grind (arith, nat_tests, length-append, get_or-append_seam)

length-before : (bs ys : List (List ℕ)) → length_with_hyphens bs ≤ length (join (bs ++ ys)) + 1
length-before [] ys = omega arith
length-before (x ∷ xs) ys = omega (arith, length-with_hyphens xs, length-join x (xs ++ ys), length-hyphenated xs ys)

before-whole : (test : List ℕ → Bool) (text : List ℕ) → join (before_key test (subtags text) ++ from_key test (subtags text)) ≡ text
before-whole test text = ap join (before-from test (subtags text)) ∙ join-subtags text

-- no more than the text and one hyphen
pub length-before_key : (test : List ℕ → Bool) (text : List ℕ) → length_with_hyphens (before_key test (subtags text)) ≤ length text + 1
length-before_key test text = omega (arith, length-before (before_key test (subtags text)) (from_key test (subtags text)), ap length (before-whole test text))

-- the text of the subtags before the first key stands at the start
pub take-before_key : (test : List ℕ → Bool) (text : List ℕ) (n : ℕ) → n ≡ length_with_hyphens (before_key test (subtags text)) - 1 → take n text ≡ join (before_key test (subtags text))
take-before_key test text n is = grind (arith, nat_tests, before-whole test text, take-before)

-- and the text may be cut after it
pub boundary-before_key : (test : List ℕ → Bool) (text : List ℕ) (n : ℕ) → IsUtf8 text → n ≡ length_with_hyphens (before_key test (subtags text)) - 1 → IsCharBoundary text n
boundary-before_key test text n utf8 is = grind (arith, nat_tests, before-whole test text, boundary-before)

-- the empty text has one segment, which is no key and has no bytes
pub before_key-segments : (keys : Keys) (text : List ℕ) → join (before_key (opens_keyword keys) (subtags text)) ≡ join (before_key (opens_keyword keys) (segments text))
before_key-segments keys text = grind (arith, nat_tests)

-- one more subtag before the key, or the key
pub before_key-more : (test : List ℕ → Bool) (s : List ℕ) (ss : List (List ℕ)) → test s ≡ false → before_key test (s ∷ ss) ≡ s ∷ before_key test ss
before_key-more test s ss other = rw other refl

pub ruleset counted_before_key = (before_key-more, length-before_key)

pub ruleset cut_before_key = (take-before_key, before_key-segments)

-- ---- a subtag and what follows it

pub segments-cut :
    (text first rest : List ℕ) (end : ℕ) → end < length text → NoHyphenWithin text 0 end → get_or text end 0 ≡ 45 →
    first ≡ take end text → rest ≡ drop (end + 1) text → segments text ≡ first ∷ segments rest
segments-cut text first rest end below free hyphen is_first is_rest =
    let kept : IsHyphenFree first = grind (arith, common_steps) in
    rw (cut_at text first rest end (end + 1) refl (grind (arith, common_steps, is_first)) is_rest below hyphen) (slice_split_at is_hyphen first 45 rest kept refl)

pub segments-whole : (text : List ℕ) (end : ℕ) → end ≡ length text → NoHyphenWithin text 0 end → segments text ≡ text ∷ []
segments-whole text end is free = grind (arith, nat_tests, slice_split_none is_hyphen text)

-- ---- the subtags of the attributes

pub fits-before_key : (test : List ℕ → Bool) (ss : List (List ℕ)) → AllByRecursion IsSubtag ss → AllByRecursion IsSubtag (before_key test ss)
fits-before_key test [] fits = tt
fits-before_key test (s ∷ ss) fits = grind (arith, common_steps, fits-before_key test ss fits.1, IsSubtag)

-- the subtags of an extension are subtags
fits-subtags_of : (b : ℕ) (r : Record) → IsWellFormed r → AllByRecursion IsSubtag (subtags_of b r)
fits-subtags_of b r fits = by_found (find_extension b r.extensions) refl
  where
    by_found : (o : Option Extension) → find_extension b r.extensions ≡ o → AllByRecursion IsSubtag (option_map_or (λ e. e.subtags) o [])
    by_found None is = tt
    by_found (Some e) is = each_subtag is_extension_subtag of_extension_subtag e.subtags (extension_found b r.extensions fits.extensions e is).subtags

-- those before the first key are found again in their text
pub subtags-before_key : (test : List ℕ → Bool) (b : ℕ) (r : Record) → IsWellFormed r → subtags (join (before_key test (subtags_of b r))) ≡ before_key test (subtags_of b r)
subtags-before_key test b r fits = subtags-joined (before_key test (subtags_of b r)) (fits-before_key test (subtags_of b r) (fits-subtags_of b r fits))

-- an extension has subtags
pub extension-some :
    (b : ℕ) (r : Record) → IsWellFormed r → (text : List ℕ) → subtags text ≡ subtags_of b r →
    (option : Option (List ℕ)) → option ≡ some_text text → option_map subtags option ≡ option_map (λ e. e.subtags) (find_extension b r.extensions)
extension-some b r fits text found option is = ap (option_map subtags) is ∙ by_found (find_extension b r.extensions) refl text found
  where
    by_found :
        (o : Option Extension) → find_extension b r.extensions ≡ o → (t : List ℕ) → subtags t ≡ option_map_or (λ e. e.subtags) o [] →
        option_map subtags (some_text t) ≡ option_map (λ e. e.subtags) o
    by_found None none t same = grind (arith, nat_tests, length-slice_split is_hyphen t)
    by_found (Some e) some t same = grind (arith, nat_tests, same, (extension_found b r.extensions fits.extensions e some).some)

pub nothing-some : (text : List ℕ) → subtags text ≡ [] → some_text text ≡ None
nothing-some text none = grind (arith, nat_tests, length-slice_split is_hyphen)

-- ---- an extension without its singleton

pub fits-after_singleton : (text : List ℕ) → IsExtension text → AllByRecursion IsSubtag (subtags (drop 2 text))
fits-after_singleton text (e, spells) =
    subst (AllByRecursion IsSubtag) (sym (subtags-after_singleton e text spells)) (each_subtag is_extension_subtag of_extension_subtag e.subtags spells.member.subtags)

-- no more bytes than the text and one hyphen
pub length-all : (text : List ℕ) → length_with_hyphens (subtags text) ≤ length text + 1
length-all text = omega (arith, length-before (subtags text) [], ap length (ap join (append-nil (subtags text)) ∙ join-subtags text))

pub ruleset counted_subtags = (length-all)

-- ---- one step of a walk over subtags

-- those before the next subtag and this one are those before the one after it
pub take-turn : (all : List (List ℕ)) (n : ℕ) (s : List ℕ) (rest : List (List ℕ)) → drop n all ≡ s ∷ rest → take n all ++ s ∷ [] ≡ take (n + 1) all
take-turn [] zero s rest left = absurd cc
take-turn [] (suc n) s rest left = absurd cc
take-turn (x ∷ all) zero s rest left = let same : x ≡ s = cc in ap (λ y. y ∷ []) (sym same)
take-turn (x ∷ all) (suc n) s rest left = grind (arith, nat_tests, take-turn all n s rest left)

module _ (test : List ℕ → Bool) where
  -- a new key
  pub keywords-new :
      (all : List (List ℕ)) (n : ℕ) (s : List ℕ) (rest : List (List ℕ)) (value : List ℕ) → drop n all ≡ s ∷ rest → is_new_key test (take n all) s ≡ true →
      value ≡ join (before_key test rest) →
      keywords_after test (take n all) (s ∷ rest) ≡ record { key = s; value = value } ∷ keywords_after test (take (n + 1) all) rest
  keywords-new all n s rest value left new is = grind (arith, common_steps, take-turn)

  -- another subtag
  pub keywords-other :
      (all : List (List ℕ)) (n : ℕ) (s : List ℕ) (rest : List (List ℕ)) → drop n all ≡ s ∷ rest → is_new_key test (take n all) s ≡ false →
      keywords_after test (take n all) (s ∷ rest) ≡ keywords_after test (take (n + 1) all) rest
  keywords-other all n s rest left other = grind (arith, nat_tests, take-turn all n s rest left)

-- a new attribute
pub first-new :
    (all : List (List ℕ)) (n : ℕ) (s : List ℕ) (rest : List (List ℕ)) → drop n all ≡ s ∷ rest → list_any (are_alike s) (take n all) ≡ false →
    each_once_after (take n all) (s ∷ rest) ≡ s ∷ each_once_after (take (n + 1) all) rest
first-new all n s rest left new = grind (arith, nat_tests, take-turn all n s rest left)

-- a repeated one
pub first-other :
    (all : List (List ℕ)) (n : ℕ) (s : List ℕ) (rest : List (List ℕ)) → drop n all ≡ s ∷ rest → list_any (are_alike s) (take n all) ≡ true →
    each_once_after (take n all) (s ∷ rest) ≡ each_once_after (take (n + 1) all) rest
first-other all n s rest left old = grind (arith, nat_tests, take-turn all n s rest left)
