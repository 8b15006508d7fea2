-- A range beside a tag: what each subtag of the tag says of the subtags of the range, and what stands before each hyphen.
use Rattle.langtag_scan.proofs.Prelude.{◌≡◌, ◌↔◌, ℕ, Bool, true, false, not, subst, IsTrue, List, [], ◌∷◌, ◌++◌, refl, ap, append_assoc, arith, ◌+◌, ◌-◌, ◌<◌, ◌≤◌, take, drop, length, get_or, ◌∙◌, eqb, ◌&&◌, sym, rules, and_parts, both_ways, not-true, or_cases, or_right, cases_lt, eq-eqb, length-map, get_or-drop, at_drop_more, take-append-drop, take_all, take_at, list_all-append, common_steps, All-tail, length-filter, count_by-le-length, length-slice_split, length-drop, eqb-true, length-append}
use Rattle.std.proofs.lemmas.List.{get_or-append_right}
use Rattle.langtag_scan.specs.Grammar.{fold_byte, are_alike, Alike, subtags, is_hyphen, IsHyphenFree, NoHyphenWithin, is_single}
use Rattle.langtag_range.specs.Definitions.{have_no_single, StandAmong, without_stars, MatchesExtended, stand_among, test_extended, is_star, is_range_subtag, are_extended_range, is_language_range, before_hyphens, fallbacks, begins_with_wildcard, basic_form, BeginsWithRange, MatchesBasic, ends_subtag, test_basic}
use Rattle.langtag_scan.proofs.SubtagLists.{slice_split-push}
use Rattle.std.specs.Char.{to_ascii_lowercase}

-- texts that are alike are as long
alike_single : (w t : List ℕ) → are_alike w t ≡ true → is_single t ≡ is_single w
alike_single w t alike = grind (arith, common_steps, length-map t fold_byte, length-map w fold_byte)

-- subtags that are not singletons may stand before
StandAmong-after : (extra : List (List ℕ)) → IsTrue (have_no_single extra) → (more rest : List (List ℕ)) → StandAmong more rest → StandAmong more (extra ++ rest)
StandAmong-after extra none [] rest h = tt
StandAmong-after extra none (w ∷ more) rest (left_out, found, later, cut, free, alike, h) = grind (arith, common_steps, append_assoc, list_all-append (λ s. not (is_single s)) extra left_out)

-- a subtag that is the wanted one may be taken for it: what another choice leaves out after it has no singleton either
among_found-from : (w t : List ℕ) (more ts : List (List ℕ)) → are_alike w t ≡ true → StandAmong (w ∷ more) (t ∷ ts) → StandAmong more ts
among_found-from w t more ts alike ([], found, rest, cut, free, same, h) = grind (arith, common_steps)
among_found-from w t more ts alike (s ∷ left_out, found, rest, cut, free, same, h) =
    let one : is_single found ≡ is_single s = grind (arith, common_steps, alike_single w found same, alike_single w t alike) in
    let later = StandAmong-after (left_out ++ found ∷ []) in
    grind (arith, common_steps, and_parts (not (is_single s)) (have_no_single left_out) free, list_all-append (λ s. not (is_single s)) left_out (found ∷ []), later, append_assoc left_out (found ∷ []) rest)

pub among_found : (w t : List ℕ) (more ts : List (List ℕ)) → are_alike w t ≡ true → StandAmong more ts ↔ StandAmong (w ∷ more) (t ∷ ts)
among_found w t more ts alike = (λ h. ([], t, ts, refl, refl, alike, h), among_found-from w t more ts alike)

among_left-from : (w t : List ℕ) (more ts : List (List ℕ)) → are_alike w t ≡ false → StandAmong (w ∷ more) (t ∷ ts) → StandAmong (w ∷ more) ts × (is_single t ≡ false)
among_left-from w t more ts other ([], found, rest, cut, free, same, h) = grind (arith, common_steps, both_ways (are_alike w t) other)
among_left-from w t more ts other (s ∷ left_out, found, rest, cut, free, same, h) = grind (arith, common_steps, and_parts, not-true)

-- any other subtag is left out
pub among_left : (w t : List ℕ) (more ts : List (List ℕ)) → are_alike w t ≡ false → is_single t ≡ false → StandAmong (w ∷ more) ts ↔ StandAmong (w ∷ more) (t ∷ ts)
among_left w t more ts other many =
    (λ h. (t ∷ h.0, h.1, h.2, ap (λ ss. t ∷ ss) h.3, rw (many, h.4) refl, h.5, h.6), λ h. (among_left-from w t more ts other h).0)

-- and a singleton may not be
pub among_blocked : (w t : List ℕ) (more ts : List (List ℕ)) → are_alike w t ≡ false → is_single t ≡ true → StandAmong (w ∷ more) (t ∷ ts) → ⊥
among_blocked w t more ts other single h = both_ways (is_single t) (among_left-from w t more ts other h).1 single

pub among_none : (w : List ℕ) (more : List (List ℕ)) → StandAmong (w ∷ more) [] → ⊥
among_none w more ([], found, rest, cut, free, same, h) = absurd cc
among_none w more (s ∷ left_out, found, rest, cut, free, same, h) = absurd cc

-- ---- a walk over the subtags of a tag, of which these are left

module _ (w t : List ℕ) (left ts all more : List (List ℕ)) (cut : left ≡ t ∷ ts) (same : StandAmong (w ∷ more) left ↔ StandAmong (w ∷ more) all) where
  pub walk_found : are_alike w t ≡ true → StandAmong more ts ↔ StandAmong (w ∷ more) all
  walk_found alike = grind (arith, common_steps, among_found w t more ts alike)

  pub walk_left : are_alike w t ≡ false → is_single t ≡ false → StandAmong (w ∷ more) ts ↔ StandAmong (w ∷ more) all
  walk_left other many = grind (arith, common_steps, among_left w t more ts other many)

  pub walk_blocked : are_alike w t ≡ false → is_single t ≡ true → StandAmong (w ∷ more) all → ⊥
  walk_blocked other single h = grind (arith, common_steps, among_blocked w t more ts other single, same.1 h)

pub walk_ended : (w : List ℕ) (left all more : List (List ℕ)) → left ≡ [] → StandAmong (w ∷ more) left ↔ StandAmong (w ∷ more) all → StandAmong (w ∷ more) all → ⊥
walk_ended w left all more none same h = among_none w more (subst (StandAmong (w ∷ more)) none (same.1 h))

-- ---- a walk over the subtags of a range

-- a subtag other than "*", which stands not among those that are left
pub walk_missed :
    (w : List ℕ) (left ws left_tag : List (List ℕ)) (Whole : Type 0) → left ≡ w ∷ ws → is_star w ≡ false →
    ((more : List (List ℕ)) → StandAmong (w ∷ more) left_tag → ⊥) → StandAmong (without_stars left) left_tag ↔ Whole → Whole → ⊥
walk_missed w left ws left_tag Whole cut plain missed same whole = grind (arith, common_steps, missed (without_stars ws), same.1 whole)

-- ---- the same as a test

stand_among-decides : (wanted subtags : List (List ℕ)) → IsTrue (stand_among wanted subtags) ↔ StandAmong wanted subtags
stand_among-decides [] subtags = (λ yes. tt, λ stands. refl)
stand_among-decides (w ∷ more) [] = (λ no. absurd cc, λ stands. absurd (among_none w more stands))
stand_among-decides (w ∷ more) (t ∷ ts) =
    grind (arith, common_steps, among_found w t more ts, among_left w t more ts, among_blocked w t more ts, stand_among-decides more ts, stand_among-decides (w ∷ more) ts)

pub test_extended-decides : (range tag : List ℕ) → IsTrue (test_extended range tag) ↔ MatchesExtended range tag
test_extended-decides range tag = grind (arith, common_steps, stand_among-decides, and_parts)

-- two tests of one statement are equal
pub same_test : (a b : Bool) (P : Type 0) → IsTrue a ↔ P → IsTrue b ↔ P → a ≡ b
same_test a b P first second = grind (arith, common_steps)

-- ---- what stands before each hyphen of a text, by what stands before the last of them

-- a text without one
before_hyphens-none : (text : List ℕ) → IsHyphenFree text → before_hyphens text ≡ []
before_hyphens-none [] free = refl
before_hyphens-none (b ∷ text) free =
    let here : is_hyphen b ≡ false = free 0 0 (omega arith) in rw (before_hyphens-none text (All-tail (λ b. is_hyphen b ≡ false) b text free), here) refl

-- one that ends in a hyphen and a text without one
before_hyphens-last : (front last : List ℕ) → IsHyphenFree last → before_hyphens (front ++ 45 ∷ last) ≡ front ∷ before_hyphens front
before_hyphens-last [] last free = rw (before_hyphens-none last free) refl
before_hyphens-last (b ∷ front) last free = rw (before_hyphens-last front last free) refl

-- the subtags of a range but for the last one
are_extended_range-front : (front : List (List ℕ)) (last : List ℕ) → 0 < length front → are_extended_range (front ++ last ∷ []) ≡ true → are_extended_range front ≡ true
are_extended_range-front front last some is = grind (arith, common_steps, and_parts, list_all-append is_range_subtag)

-- ---- where the last subtag of a text begins, as `segment_start` returns it

module _ (text bytes : List ℕ) (start : ℕ) (same : bytes ≡ text) (within : start ≤ length text) (free : NoHyphenWithin bytes start (length text)) where
  last_free : IsHyphenFree (drop start text)
  last_free = grind (arith, common_steps, get_or-drop start text, length-drop start text)

  pub before_hyphens-whole : start ≡ 0 → before_hyphens text ≡ []
  before_hyphens-whole none = before_hyphens-none text (subst (λ n. IsHyphenFree (drop n text)) none last_free)

  last_cut : 0 < start → get_or bytes (start - 1) 0 ≡ 45 → text ≡ take (start - 1) text ++ 45 ∷ drop start text
  last_cut some hyphen = grind (arith, common_steps, at_drop_more, take-append-drop (start - 1) text)

  pub before_hyphens-cut : 0 < start → get_or bytes (start - 1) 0 ≡ 45 → before_hyphens text ≡ take (start - 1) text ∷ before_hyphens (take (start - 1) text)
  before_hyphens-cut some hyphen = ap before_hyphens (last_cut some hyphen) ∙ before_hyphens-last (take (start - 1) text) (drop start text) last_free

  -- and it is a range where the whole is
  pub is_language_range-cut : 0 < start → get_or bytes (start - 1) 0 ≡ 45 → is_language_range text ≡ true → is_language_range (take (start - 1) text) ≡ true
  is_language_range-cut some hyphen is =
      grind (arith, common_steps, last_cut, slice_split-push, last_free, are_extended_range-front, length-slice_split)

-- ---- no more than bytes

length-before_hyphens : (text : List ℕ) → length (before_hyphens text) ≤ length text
length-before_hyphens [] = omega arith
length-before_hyphens (b ∷ text) = grind (arith, common_steps, length-append, length-map, length-before_hyphens text)

pub few_fallbacks : (text : List ℕ) → length (fallbacks text) ≤ length text + 1
few_fallbacks text = grind (arith, common_steps, length-filter, count_by-le-length, length-before_hyphens text)

-- ---- a tag and a range in its basic form, byte by byte

-- a byte with which no "-*" begins stays
pub basic_form-byte : (a : ℕ) (range : List ℕ) → begins_with_wildcard (a ∷ range) ≡ false → basic_form (a ∷ range) ≡ a ∷ basic_form range
basic_form-byte a range none = grind (arith, common_steps)

-- the next bytes differ
pub are_alike-differ :
    (tag range : List ℕ) → 0 < length tag → 0 < length range → begins_with_wildcard range ≡ false →
    eqb (to_ascii_lowercase (get_or tag 0 0)) (to_ascii_lowercase (get_or range 0 0)) ≡ false → are_alike tag (basic_form range) ≡ false
unfolding fold_byte
are_alike-differ tag range some any none differ = grind (arith, common_steps, basic_form-byte)

-- or are alike, and then all that follows decides
pub are_alike-next :
    (tag range : List ℕ) → 0 < length tag → 0 < length range → begins_with_wildcard range ≡ false →
    eqb (to_ascii_lowercase (get_or tag 0 0)) (to_ascii_lowercase (get_or range 0 0)) ≡ true →
    are_alike (take (length tag - 1) (drop 1 tag)) (basic_form (take (length range - 1) (drop 1 range))) ≡ are_alike tag (basic_form range)
unfolding fold_byte
are_alike-next tag range some any none alike = grind (arith, common_steps, take_all, basic_form-byte)

pub ruleset bytes_alike = (are_alike-differ, are_alike-next)

-- ---- a tag that begins with a range

-- texts that are alike are as long
pub length-alike : (a b : List ℕ) → Alike a b → length a ≡ length b
length-alike a b alike = sym (length-map a fold_byte) ∙ ap length alike ∙ length-map b fold_byte

-- the tag goes on with a hyphen
pub begins_before :
    (range tag : List ℕ) → length range < length tag → Alike range (take (length range) tag) → get_or tag (length range) 0 ≡ 45 →
    BeginsWithRange range tag
begins_before range tag longer alike hyphen = grind (arith, common_steps, at_drop_more, take-append-drop (length range) tag)

-- what a tag that begins with the range shows
pub record Begins (range tag : List ℕ) : Type 0 where
  pub within : length range ≤ length tag
  pub alike : Alike range (take (length range) tag)
  pub hyphen : length range < length tag → get_or tag (length range) 0 ≡ 45

pub begins_shown : (range tag : List ℕ) → BeginsWithRange range tag → Begins range tag
begins_shown range tag h = grind (arith, common_steps, length-alike, take_all, length-append, take_at, get_or-append_right)

-- ---- the same as a test

first-drop : (n : ℕ) (text : List ℕ) → get_or (drop n text) 0 0 ≡ get_or text n 0
first-drop n text = grind (arith, common_steps, get_or-drop n text 0 0)

begins_from_test : (range tag : List ℕ) → are_alike range (take (length range) tag) ≡ true → ends_subtag (drop (length range) tag) ≡ true → BeginsWithRange range tag
begins_from_test range tag alike ends =
    grind (arith, common_steps, rules, cases_lt, eqb-true, length-drop, begins_before, first-drop, take_all)

test_from_begins : (range tag : List ℕ) → BeginsWithRange range tag → (are_alike range (take (length range) tag) && ends_subtag (drop (length range) tag)) ≡ true
test_from_begins range tag begins = grind (arith, common_steps, rules, begins_shown, eq-eqb, first-drop, length-drop)

pub test_basic-decides : (range tag : List ℕ) → IsTrue (test_basic range tag) ↔ MatchesBasic range tag
test_basic-decides range tag = grind (arith, common_steps, or_cases, and_parts, begins_from_test, or_right, test_from_begins)
