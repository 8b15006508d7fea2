-- Whether texts have the extension t, as they are read and in any case.
use Rattle.langtag_scan.proofs.Prelude.{◌≡◌, ◌≤◌, ◌<◌, ℕ, Bool, length, get_or, true, false, not, ◌&&◌, ◌||◌, before_first, after_first, List, [], ◌∷◌, refl, sym, arith, map, filter, subst, bytes_decides, nat_tests, common_steps, codes}
use Rattle.langtag_scan.specs.Grammar.{Alike, are_alike, fold_byte, fold_text, subtags}
use Rattle.langtag_scan.proofs.CaseLaw.{fold_text-twice, subtags-fold}
use Rattle.langtag_text.proofs.Alike.{are_alike-right}
use Rattle.langtag_range.specs.Definitions.{basic_text, hyphened, is_language_range, is_separator}
use Rattle.langtag_range.proofs.AlikeTexts.{hyphened-fold}
use Rattle.langtag_range.proofs.BasicForms.{basic_of, hyphened_range, is_plain}
use Rattle.langtag_range.proofs.WantedTexts.{cut_or_whole, segments-read}
use Rattle.langtag_choice.specs.Transformed.{has_extension_t, is_transformed, unasked_transform}
use Rattle.langtag_choice.proofs.FarTags.{read_subtags}

-- ---- in any case

extension-fold : (ss : List (List ℕ)) → has_extension_t (map fold_text ss) ≡ has_extension_t ss
extension-fold [] = refl
extension-fold (s ∷ ss) = rw (are_alike-right (codes "x") (fold_text s) s (fold_text-twice s), are_alike-right (codes "t") (fold_text s) s (fold_text-twice s), extension-fold ss) refl

transformed-fold : (text : List ℕ) → is_transformed (fold_text text) ≡ is_transformed text
unfolding is_transformed
transformed-fold text = rw (hyphened-fold text, subtags-fold (hyphened text)) (extension-fold (subtags (hyphened text)))

pub transform-fold : (range tag : List ℕ) → unasked_transform (fold_text range) (fold_text tag) ≡ unasked_transform range tag
unfolding unasked_transform
transform-fold range tag = rw (transformed-fold range, transformed-fold tag) refl

-- a tag that is the range is no translation for which the range does not ask
pub transform-none : (range tag : List ℕ) → Alike range tag → unasked_transform range tag ≡ 0
unfolding unasked_transform
transform-none range tag alike = grind (arith, common_steps, transformed-fold range, transformed-fold tag, alike)

-- ---- as they are read

pub next_subtag :
    (text : List ℕ) → is_transformed text ≡
    (not (are_alike (codes "x") (before_first is_separator text)) && (are_alike (codes "t") (before_first is_separator text) || is_transformed (after_first is_separator text)))
unfolding is_transformed
next_subtag text = grind (arith, common_steps, cut_or_whole is_separator text, segments-read text, segments-read (after_first is_separator text))

pub nothing_transformed : is_transformed [] ≡ false
unfolding is_transformed fold_byte
nothing_transformed = refl

-- ---- short texts

abbrev are_plain : ℕ → ℕ → Bool
are_plain a b = not (is_separator a) && not (is_separator b)

two_bytes : (a b : ℕ) → are_plain a b ≡ true → is_transformed (a ∷ b ∷ []) ≡ false
unfolding is_transformed
two_bytes a b plain = grind (arith, nat_tests, common_steps, segments-read (a ∷ b ∷ []))

-- whether the third of five bytes is a separator or not, no subtag has a single byte
five_bytes : (a b m c d : ℕ) → (are_plain a b && are_plain c d) ≡ true → is_transformed (a ∷ b ∷ m ∷ c ∷ d ∷ []) ≡ false
unfolding is_transformed
five_bytes a b m c d plain = grind (arith, nat_tests, common_steps, segments-read (a ∷ b ∷ m ∷ c ∷ d ∷ []))

pub two_untransformed : (text : List ℕ) → 2 ≤ length text → length text < 3 → are_plain (get_or text 0 0) (get_or text 1 0) ≡ true → is_transformed text ≡ false
two_untransformed [] some few plain = absurd (omega (arith, some))
two_untransformed (a ∷ []) some few plain = absurd (omega (arith, some))
two_untransformed (a ∷ b ∷ []) some few plain = two_bytes a b plain
two_untransformed (a ∷ b ∷ c ∷ text) some few plain = absurd (omega (arith, few))

pub five_untransformed :
    (text : List ℕ) → 5 ≤ length text → length text < 6 → (are_plain (get_or text 0 0) (get_or text 1 0) && are_plain (get_or text 3 0) (get_or text 4 0)) ≡ true →
    is_transformed text ≡ false
five_untransformed [] some few plain = absurd (omega (arith, some))
five_untransformed (a ∷ []) some few plain = absurd (omega (arith, some))
five_untransformed (a ∷ b ∷ []) some few plain = absurd (omega (arith, some))
five_untransformed (a ∷ b ∷ m ∷ []) some few plain = absurd (omega (arith, some))
five_untransformed (a ∷ b ∷ m ∷ c ∷ []) some few plain = absurd (omega (arith, some))
five_untransformed (a ∷ b ∷ m ∷ c ∷ d ∷ []) some few plain = five_bytes a b m c d plain
five_untransformed (a ∷ b ∷ m ∷ c ∷ d ∷ e ∷ text) some few plain = absurd (omega (arith, few))

-- ---- of a range

star_apart : (s : List ℕ) → is_plain s ≡ false → (are_alike (codes "x") s ≡ false) × (are_alike (codes "t") s ≡ false)
unfolding fold_byte
star_apart s star = subst (λ s. (are_alike (codes "x") s ≡ false) × (are_alike (codes "t") s ≡ false)) (sym ((bytes_decides s (42 ∷ [])).0 (grind (arith, nat_tests, common_steps)))) (refl, refl)

plain_extension : (ss : List (List ℕ)) → has_extension_t (filter is_plain ss) ≡ has_extension_t ss
plain_extension [] = refl
plain_extension (s ∷ ss) = grind (arith, nat_tests, common_steps, plain_extension ss, star_apart s)

pub range_transformed : (range : List ℕ) → is_language_range (hyphened range) ≡ true → is_transformed (basic_text range) ≡ is_transformed range
unfolding is_transformed basic_text
range_transformed range is =
    let basic = read_subtags has_extension_t (λ first others. rw (plain_extension others) refl) (hyphened range) is in
    grind (arith, nat_tests, common_steps, hyphened, hyphened_range, basic_of, basic)
