-- The recommended case of a text: it is alike the text, alike texts have the same one, and how it is had from subtag to subtag and part by part.
use Rattle.langtag_scan.proofs.Prelude.{◌≡◌, ℕ, ◌<◌, ◌==◌, Bool, true, false, cond, ◌||◌, Some, All, subst, List, [], ◌∷◌, ◌++◌, length, map, take, get_or, refl, sym, ap, ◌∙◌, arith, append_assoc, append-nil, IsAscii, eqb-true, ◌≤◌, Option, None, option_map, IsTrue, IfSome, common_steps, to_ascii_uppercase, list_any, AllByRecursion, flat_map, or-true, or-false, length-map, map-append, nat_tests, list_any-append, length-slice_split, join_with_byte-slice_split, lowercase-uppercase, lowercase_ascii, All-nil, All-cons, All-head, All-tail, ne_eqb, and_parts, or_cases, slice_get, length-append}
use Prim.Native.Nat.{zero, suc}
use Rattle.std.proofs.lemmas.Str.Ascii.{IsAscii-map}
use Rattle.std.proofs.Math.ListN.{get_or-map}
use Rattle.langtag_scan.specs.Grammar.{fold_byte, fold_text, Alike, is_single, is_digit, are_letters, are_digits, is_primary, is_extended, is_script, is_region, is_variant, is_hyphen, IsHyphenFree, join, segments, fold_extension, fold_private_use, EachRecord, Extension, PrivateUse, Record, IsWellFormed, extension_flat, one_flat, private_part_flat, spell}
use Rattle.langtag_scan.proofs.Laws.{hyphen-fold, length-fold, segments-fold, join-fold, fold_text-twice, extensions-fold, private_part-fold, segments-join, segments-hyphen_free, spelled_segments}
use Rattle.langtag_text.specs.Walk.{later}
use Rattle.langtag_text.specs.RecommendedCase.{title_text, by_length, recommended_subtag, recommended_after, recommended_text, capital_text, recommended_record}
use Rattle.langtag_scan.proofs.BoolFacts.{between_true}

-- ---- bytes

-- a capital folds as its letter does
fold-upper : (b : ℕ) → fold_byte (to_ascii_uppercase b) ≡ fold_byte b
unfolding fold_byte
fold-upper b = lowercase-uppercase b

-- and has the capital of the letter
upper-fold : (b : ℕ) → to_ascii_uppercase (fold_byte b) ≡ to_ascii_uppercase b
unfolding fold_byte
upper-fold b = grind (arith, nat_tests)

-- ---- subtags

-- bytes that are put through two functions, one after the other
map-same : (f g h : ℕ → ℕ) → ((b : ℕ) → f (g b) ≡ h b) → (s : List ℕ) → map f (map g s) ≡ map h s
map-same f g h same [] = refl
map-same f g h same (b ∷ s) = rw (same b, map-same f g h same s) refl

-- titlecase is that of the fold
title-fold : (s : List ℕ) → title_text (fold_text s) ≡ title_text s
title-fold s = grind (arith, common_steps, upper-fold, fold_text-twice s)

-- the case of a subtag is that of its fold, and its fold is that of the subtag
pub by_length-fold : (s : List ℕ) → by_length (fold_text s) ≡ by_length s
by_length-fold s = rw (length-fold s, map-same to_ascii_uppercase fold_byte to_ascii_uppercase upper-fold s, title-fold s, fold_text-twice s) refl

-- the fold is as long, and so are those of a list
any_single-fold : (ss : List (List ℕ)) → list_any is_single (map fold_text ss) ≡ list_any is_single ss
any_single-fold [] = refl
any_single-fold (s ∷ ss) = rw (length-fold s, any_single-fold ss) refl

-- a subtag has the case of its fold, among folded ones
recommended_subtag-fold : (before : List (List ℕ)) (s : List ℕ) → recommended_subtag (map fold_text before) (fold_text s) ≡ recommended_subtag before s
recommended_subtag-fold before s = grind (arith, common_steps, length-map before fold_text, any_single-fold before, fold_text-twice s, by_length-fold s)

-- and folds as it did
fold-recommended_subtag : (before : List (List ℕ)) (s : List ℕ) → fold_text (recommended_subtag before s) ≡ fold_text s
fold-recommended_subtag before s = grind (arith, common_steps, fold_text-twice, map-same, fold-upper)

-- ---- lists of subtags

-- folded subtags come out as those they fold
recommended_after-fold : (before ss : List (List ℕ)) → recommended_after (map fold_text before) (map fold_text ss) ≡ recommended_after before ss
recommended_after-fold before [] = refl
recommended_after-fold before (s ∷ ss) = grind (arith, common_steps, recommended_subtag-fold, map-append, recommended_after-fold (before ++ s ∷ []) ss)

-- and fold as they did
fold-recommended_after : (before ss : List (List ℕ)) → map fold_text (recommended_after before ss) ≡ map fold_text ss
fold-recommended_after before [] = refl
fold-recommended_after before (s ∷ ss) = rw (fold-recommended_subtag before s, fold-recommended_after (before ++ s ∷ []) ss) refl

-- ---- the laws

-- a text comes out as its fold
pub recommended-fold : (t : List ℕ) → recommended_text (fold_text t) ≡ recommended_text t
recommended-fold t = ap (λ ss. join (recommended_after [] ss)) (segments-fold t) ∙ ap join (recommended_after-fold [] (segments t))

-- it changes nothing but case
pub recommended_alike : (t : List ℕ) → Alike (recommended_text t) t
recommended_alike t =
    sym (join-fold (recommended_after [] (segments t))) ∙ ap join (fold-recommended_after [] (segments t)) ∙ join-fold (segments t) ∙ ap fold_text (join_with_byte-slice_split 45 t)

-- a text that is another in its recommended case is alike that
pub alike_of_recommended : (old new : List ℕ) → new ≡ recommended_text old → Alike old new
alike_of_recommended old new case = sym (ap fold_text case ∙ recommended_alike old)

-- texts that are alike have the same one
pub alike_recommended : (t u : List ℕ) → Alike t u → recommended_text t ≡ recommended_text u
alike_recommended t u alike = sym (recommended-fold t) ∙ ap recommended_text alike ∙ recommended-fold u

-- a text in its recommended case stays as it is
pub recommended_twice : (t : List ℕ) → recommended_text (recommended_text t) ≡ recommended_text t
recommended_twice t = alike_recommended (recommended_text t) t (recommended_alike t)

-- a letter is ASCII where its small one is
fold-ascii : (b : ℕ) → fold_byte b < 128 → b < 128
unfolding fold_byte
fold-ascii b small = grind (arith, nat_tests)

-- a text of ASCII is one in its recommended case
pub recommended-ascii : (text : List ℕ) → IsAscii text → IsAscii (recommended_text text)
unfolding fold_byte
recommended-ascii text ascii = λ i.
    let folded : IsAscii (fold_text (recommended_text text)) = subst IsAscii (sym (recommended_alike text)) (IsAscii-map fold_byte text lowercase_ascii ascii) in
    fold-ascii (get_or (recommended_text text) i 0) (subst (λ b. b < 128) (get_or-map fold_byte (recommended_text text) i 0) (folded i))

-- ---- from subtag to subtag

-- whether there is a singleton among one more subtag
any_push : (before : List (List ℕ)) (s : List ℕ) (v : Bool) → list_any is_single before ≡ v → list_any is_single (before ++ s ∷ []) ≡ (v || is_single s)
any_push before s v h = list_any-append is_single before (s ∷ []) ∙ rw (h, or-false (is_single s)) refl

-- after a singleton all subtags are small
after_single : (before ss : List (List ℕ)) → list_any is_single before ≡ true → recommended_after before ss ≡ map fold_text ss
after_single before [] some = refl
after_single before (s ∷ ss) some = grind (arith, common_steps, or-true, any_push, after_single (before ++ s ∷ []) ss (any_push before s true some))

-- where none stood before, those that are not first have the case of later ones
after_none : (before ss : List (List ℕ)) → list_any is_single before ≡ false → (length before == 0) ≡ false → recommended_after before ss ≡ later ss
after_none before [] none some = refl
after_none before (s ∷ ss) none some = grind (arith, common_steps, any_push, ne_eqb, length-append, after_single, eqb-true, after_none (before ++ s ∷ []) ss)

-- what follows the first subtag
pub after_first : (s : List ℕ) (ss : List (List ℕ)) (v : Bool) → is_single s ≡ v → recommended_after (s ∷ []) ss ≡ cond v (map fold_text ss) (later ss)
after_first s ss v many = grind (arith, common_steps, after_single (s ∷ []) ss, any_push, after_none (s ∷ []) ss)

-- ---- each subtag

-- a fold has no hyphen where its text has none
hyphen_free-folded : (s : List ℕ) → IsHyphenFree s → IsHyphenFree (fold_text s)
hyphen_free-folded s free k d inside = grind (arith, common_steps, hyphen-fold (get_or s k d), free k d)

-- and the other way round
hyphen_free-fold : (s : List ℕ) → IsHyphenFree (fold_text s) → IsHyphenFree s
hyphen_free-fold s free k d inside = grind (arith, common_steps, hyphen-fold (get_or s k d), free k d)

-- nor have subtags in their case
hyphen_free-recommended : (before ss : List (List ℕ)) → All IsHyphenFree ss → All IsHyphenFree (recommended_after before ss)
hyphen_free-recommended before [] free = All-nil IsHyphenFree
hyphen_free-recommended before (s ∷ ss) free =
    All-cons IsHyphenFree (recommended_subtag before s) (recommended_after (before ++ s ∷ []) ss)
    (hyphen_free-fold (recommended_subtag before s) (subst IsHyphenFree (sym (fold-recommended_subtag before s)) (hyphen_free-folded s (All-head IsHyphenFree s ss free))))
    (hyphen_free-recommended (before ++ s ∷ []) ss (All-tail IsHyphenFree s ss free))

-- so they are found again in their join
segments-cased : (ss : List (List ℕ)) → 0 < length ss → All IsHyphenFree ss → segments (join (recommended_after [] ss)) ≡ recommended_after [] ss
segments-cased [] some free = absurd (omega (arith, some))
segments-cased (s ∷ ss) some free = segments-join (fold_text s) (recommended_after (s ∷ []) ss) (hyphen_free-recommended [] (s ∷ ss) free)

-- the one at an index
recommended-at :
    (before ss : List (List ℕ)) (k : ℕ) (s : List ℕ) → slice_get ss k ≡ Some s →
    slice_get (recommended_after before ss) k ≡ Some (recommended_subtag (before ++ take k ss) s)
recommended-at before [] k s there = absurd cc
recommended-at before (u ∷ ss) zero s there = grind (arith, common_steps, append-nil before)
recommended-at before (u ∷ ss) (suc k) s there = cc (recommended-at (before ++ u ∷ []) ss k s there, append_assoc before (u ∷ []) (take k ss))

-- the subtag at an index has its case by those before it
pub recommended_each :
    (t s : List ℕ) (k : ℕ) → slice_get (segments t) k ≡ Some s →
    slice_get (segments (recommended_text t)) k ≡ Some (recommended_subtag (take k (segments t)) s)
recommended_each t s k there =
    ap (λ ss. slice_get ss k) (segments-cased (segments t) (omega (arith, length-slice_split is_hyphen t)) (segments-hyphen_free t))
    ∙ recommended-at [] (segments t) k s there

-- ---- digits have no case

-- a digit
digit-case : (b : ℕ) → is_digit b ≡ true → to_ascii_uppercase b ≡ fold_byte b
unfolding is_digit fold_byte
digit-case b digit = grind (arith, nat_tests)

-- a subtag of digits
digits-case : (s : List ℕ) → are_digits s ≡ true → capital_text s ≡ fold_text s
digits-case [] digits = refl
digits-case (b ∷ s) digits = let k = and_parts (is_digit b) (are_digits s) digits in rw (digit-case b k.0, digits-case s k.1) refl

-- ---- the case of a subtag by its class

-- it is no singleton, and its length calls for a case
abbrev IsCased : (List ℕ → List ℕ) → List ℕ → Type 0
IsCased put s = (is_single s ≡ false) × (by_length s ≡ put s)

-- of three bytes
three : (s : List ℕ) → length s ≡ 3 → IsCased fold_text s
three s size = (ap (λ n. n == 1) size, rw size refl)

-- of five bytes or more
long : (s : List ℕ) → 5 ≤ length s → IsCased fold_text s
long s size = grind (arith, common_steps, ne_eqb (length s) 1, ne_eqb (length s) 2, ne_eqb (length s) 4)

-- an extended subtag is small
extended-cased : (s : List ℕ) → is_extended s ≡ true → IsCased fold_text s
unfolding is_extended
extended-cased s is = three s (eqb-true (length s) 3 (and_parts (length s == 3) (are_letters s) is).0)

-- a script in titlecase
script-cased : (s : List ℕ) → is_script s ≡ true → IsCased title_text s
unfolding is_script
script-cased s is = let size : length s ≡ 4 = eqb-true (length s) 4 (and_parts (length s == 4) (are_letters s) is).0 in (ap (λ n. n == 1) size, rw size refl)

-- a region in capitals, where it has letters
region-cased : (s : List ℕ) → is_region s ≡ true → IsCased capital_text s
unfolding is_region
region-cased s is = grind (arith, common_steps, or_cases, eqb-true, and_parts, three, digits-case)

-- a variant small
variant-cased : (s : List ℕ) → is_variant s ≡ true → IsCased fold_text s
unfolding is_variant
variant-cased s is = grind (arith, common_steps, or_cases, long, between_true, and_parts, eqb-true, digit-case)

-- a primary subtag is no singleton
primary-many : (s : List ℕ) → is_primary s ≡ true → is_single s ≡ false
unfolding is_primary
primary-many s is = grind (arith, common_steps, between_true, and_parts, ne_eqb)

-- ---- the parts, one after the other

-- the subtags of a part, and those after it
module _ (test : List ℕ → Bool) (put : List ℕ → List ℕ) (cases : (s : List ℕ) → test s ≡ true → IsCased put s) where
  -- of several subtags
  part-cased : (ss us : List (List ℕ)) → AllByRecursion (λ s. IsTrue (test s)) ss → later (ss ++ us) ≡ map put ss ++ later us
  part-cased [] us fits = refl
  part-cased (s ∷ ss) us fits = grind (arith, common_steps, part-cased ss us fits.1)

  -- of one that may be there
  one-cased : (o : Option (List ℕ)) (us : List (List ℕ)) → IfSome o (λ s. IsTrue (test s)) → later (one_flat o ++ us) ≡ one_flat (option_map put o) ++ later us
  one-cased o us fits = grind (arith, common_steps, part-cased)

-- the first of them begins with a singleton, after which all is small
tail-cased :
    (es : List Extension) (p : Option PrivateUse) →
    later (flat_map extension_flat es ++ private_part_flat p)
    ≡ flat_map extension_flat (map fold_extension es) ++ private_part_flat (option_map fold_private_use p)
tail-cased [] None = refl
tail-cased [] (Some p) = refl
tail-cased (e ∷ es) p = grind (arith, common_steps, map-append, extensions-fold, private_part-fold)

-- ---- the law

-- a record spells its text in its recommended case where it is itself in its own
pub recommended_spelled : (r : Record) → IsWellFormed r → recommended_text (spell r) ≡ spell (recommended_record r)
recommended_spelled r fits =
    ap (λ ss. join (recommended_after [] ss)) (spelled_segments r fits)
    ∙ ap (λ ss. join (fold_text r.primary ∷ ss)) (after_first r.primary _ false (primary-many r.primary fits.primary) ∙ parts)
  where
    parts :
        later (r.extended ++ (one_flat r.script ++ (one_flat r.region ++ (r.variants ++ (flat_map extension_flat r.extensions ++ private_part_flat r.private_use)))))
        ≡ map fold_text r.extended ++ (one_flat (option_map title_text r.script) ++ (one_flat (option_map capital_text r.region)
        ++ (map fold_text r.variants ++ (flat_map extension_flat (map fold_extension r.extensions) ++ private_part_flat (option_map fold_private_use r.private_use)))))
    parts =
        let extended = part-cased is_extended fold_text extended-cased r.extended in
        let script = one-cased is_script title_text script-cased r.script in
        let region = one-cased is_region capital_text region-cased r.region in
        let variants = part-cased is_variant fold_text variant-cased r.variants in
        grind (arith, common_steps, extended, script, region, variants, tail-cased r.extensions r.private_use)

-- and so does the text of a tag in its recommended case
pub spelled_in_case : (old new : List ℕ) → new ≡ recommended_text old → EachRecord old (λ r. new ≡ spell (recommended_record r))
spelled_in_case old new case r spells = case ∙ ap recommended_text (sym spells.1) ∙ recommended_spelled r spells.0
