-- A tag of any kind is ASCII, so a text that is not UTF-8 is not a tag.
use Rattle.langtag_scan.proofs.Prelude.{Bool, ◌≡◌, ℕ, ◌<◌, true, List, [], ◌∷◌, arith, ap, sym, subst, refl, ◌∙◌, IsAscii, IsUtf8, and_parts, agree_below_at, is_ascii, AllByRecursion, list_all, nat_tests, IsUtf8-from_ascii, IsAscii-append, IsAscii-nil, IsAscii-cons, common_steps}
use Rattle.langtag_scan.specs.Grammar.{fold_byte, is_letter, is_digit, is_alphanumeric, is_private_subtag, grandfathered_tags, irregular_texts, folded_texts, folded_at, flat, private_use_flat, join, IsNormal, IsPrivate, IsIrregular, IsTag}
use Rattle.langtag_scan.proofs.CaseLaw.{all-fold}
use Rattle.langtag_scan.proofs.IrregularTexts.{irregular_fold}
use Rattle.langtag_scan.proofs.NormalTexts.{flat_subtags}
use Rattle.langtag_scan.proofs.SubtagFacts.{IsSubtag, of_private_subtag, of_one, mark_alphanumeric}
use Rattle.langtag_scan.proofs.SubtagLists.{each_subtag}

-- ---- subtags and the hyphens between them

-- a text is, where each byte passes a test that none above 127 does
pub IsAscii-each : (test : ℕ → Bool) → ((b : ℕ) → test b ≡ true → b < 128) → (s : List ℕ) → list_all test s ≡ true → IsAscii s
IsAscii-each test below [] each = IsAscii-nil
IsAscii-each test below (b ∷ s) each = grind (arith, common_steps, and_parts (test b) (list_all test s) each, IsAscii-cons b s, IsAscii-each test below s)

-- as letters and digits do
pub alphanumeric_below : (b : ℕ) → is_alphanumeric b ≡ true → b < 128
unfolding is_letter is_digit
alphanumeric_below b h = grind (arith, nat_tests)

IsAscii-join : (ss : List (List ℕ)) → AllByRecursion IsSubtag ss → IsAscii (join ss)
IsAscii-join [] fits = IsAscii-nil
IsAscii-join (s ∷ ss) fits = grind (arith, common_steps, IsAscii-each is_alphanumeric alphanumeric_below s, IsAscii-append s, IsAscii-cons, IsAscii-join ss)

pub IsAscii-spelled : (t : List ℕ) (ss : List (List ℕ)) → join ss ≡ t → AllByRecursion IsSubtag ss → IsAscii t
IsAscii-spelled t ss spells fits = subst IsAscii spells (IsAscii-join ss fits)

-- ---- the kinds of tags

pub IsAscii-normal : (t : List ℕ) → IsNormal t → IsAscii t
unfolding IsNormal
IsAscii-normal t (r, (fits, spells)) = IsAscii-spelled t (flat r) spells (flat_subtags r fits)

pub IsAscii-private : (t : List ℕ) → IsPrivate t → IsAscii t
unfolding IsPrivate
IsAscii-private t (p, fits, spells) =
    let subtags = each_subtag is_private_subtag of_private_subtag p.subtags fits.subtags in
    IsAscii-spelled t (private_use_flat p) spells (of_one p.mark (mark_alphanumeric p.mark fits.mark), subtags)

is_ascii-fold : (b : ℕ) → is_ascii (fold_byte b) ≡ is_ascii b
unfolding fold_byte
is_ascii-fold b = grind (arith, nat_tests)

-- each text of the table is, and so is one that is alike it
pub IsAscii-irregular : (t : List ℕ) → IsIrregular t → IsAscii t
unfolding IsIrregular fold_byte folded_texts irregular_texts grandfathered_tags
IsAscii-irregular t (k, irregular) =
    let whole = irregular_fold t k irregular in
    let here = agree_below_at (λ j. list_all is_ascii (folded_at j)) (λ j. true) 17 k refl whole.0 in
    let text = sym (all-fold is_ascii is_ascii-fold t) ∙ ap (list_all is_ascii) (sym whole.1) ∙ here in
    IsAscii-each is_ascii (λ b h. grind (arith, nat_tests)) t text

pub IsAscii-tag : (t : List ℕ) → IsTag t → IsAscii t
unfolding IsTag
IsAscii-tag t h = grind (arith, common_steps, IsAscii-normal t, IsAscii-private t, IsAscii-irregular t)

pub IsUtf8-tag : (t : List ℕ) → IsTag t → IsUtf8 t
IsUtf8-tag t is = IsUtf8-from_ascii t (IsAscii-tag t is)
