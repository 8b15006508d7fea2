-- A range and a tag behind their first subtags, and languages as they are read.
use Rattle.langtag_scan.proofs.Prelude.{◌≡◌, ℕ, Bool, true, false, not, ◌==◌, ◌≤◌, ◌-◌, ◌&&◌, cond, List, [], ◌∷◌, ◌++◌, length, take, drop, get_or, refl, sym, ap, subst, and_parts, eqb-true, not-true, ◌∙◌, arith, nat_tests, common_steps, before_first, take_while-cons, option_map_or, drop-append_seam, drop-map, length-take, position_or_len}
use Rattle.langtag_scan.specs.Grammar.{Alike, are_alike-decides, fold_text, subtags, is_hyphen}
use Rattle.langtag_scan.proofs.CaseLaw.{hyphen-fold, length-fold}
use Rattle.langtag_range.specs.Definitions.{basic_form, basic_text, hyphened, ends_subtag, is_language_range, is_separator}
use Rattle.langtag_range.proofs.AlikeTexts.{before_first-fold}
use Rattle.langtag_range.proofs.WantedTexts.{cut_or_whole}
use Rattle.langtag_text.specs.Fields.{Fields}
use Rattle.langtag_cldr.proofs.AlikeFields.{by_options}
use Rattle.langtag_cldr.proofs.CommonTexts.{read_byte, rest_of, unmarked}
use Rattle.langtag_text.proofs.Alike.{AlikeFields}
use Rattle.langtag_choice.proofs.AlikeDistances.{both-alike, replaced_form-alike}
use Rattle.langtag_choice.proofs.FarTags.{read_subtags}
use Rattle.langtag_choice.specs.AsRead.{alone_or, are_two_codes, behind_first, first_subtag, language_read}

-- ---- the first subtag of a range, in which "_" is read as "-"

-- the bytes before the first mark
abbrev before_mark : List ℕ → List ℕ
before_mark text = before_first is_separator text

marked : (b : ℕ) (text : List ℕ) → is_separator b ≡ true → before_mark (b ∷ text) ≡ []
marked b text is = take_while-cons (λ b. not (is_separator b)) b text ∙ ap (λ s. cond (not s) (b ∷ before_mark text) []) is

first_cons : (b : ℕ) (text : List ℕ) → first_subtag (b ∷ text) ≡ cond (not (is_hyphen b)) (b ∷ first_subtag text) []
first_cons b text = take_while-cons (λ b. not (is_hyphen b)) b text

-- "_" is read as "-", so both end the first subtag
first_hyphened : (text : List ℕ) → first_subtag (hyphened text) ≡ before_mark text
first_hyphened [] = refl
first_hyphened (b ∷ text) = grind (arith, nat_tests, first_cons, unmarked b text, marked b text, first_hyphened text)

-- the first of the subtags is the first subtag
first_of_subtags : (text : List ℕ) → first_subtag text ≡ get_or (subtags text) 0 []
first_of_subtags [] = refl
first_of_subtags (b ∷ text) = grind (arith, cut_or_whole is_hyphen (b ∷ text))

-- each "-*" that is left out of a range stands behind its first subtag
pub first_read : (range : List ℕ) → is_language_range (hyphened range) ≡ true → before_mark range ≡ first_subtag (basic_text range)
unfolding basic_text
first_read range is =
    let same = read_subtags (λ ss. get_or ss 0 []) (λ first others. refl) (hyphened range) is in
    cc (first_hyphened range, first_of_subtags (hyphened range), same, first_of_subtags (basic_form (hyphened range)))

-- ---- what follows it

-- a range is read as its first subtag, and what follows as it is read alone
read_from : (range : List ℕ) → basic_text range ≡ before_mark range ++ basic_text (drop (length (before_mark range)) range)
read_from [] = refl
read_from (b ∷ range) = grind (arith, nat_tests, common_steps, read_byte b range, unmarked b range, marked b range, read_from range)

-- what stands before a mark is no longer than the text
pub first_within : (p : ℕ → Bool) (text : List ℕ) → length (before_first p text) ≤ length text
first_within p text = omega (arith, length-take (position_or_len p text) text)

pub range_split :
    (range first : List ℕ) → first ≡ before_mark range → is_language_range (hyphened range) ≡ true →
    basic_text (take (length range - length first) (drop (length first) range)) ≡ behind_first (basic_text range)
range_split range first same is = grind (arith, nat_tests, common_steps, rest_of, drop-append_seam, read_from, first_read)

pub tag_split : (tag first : List ℕ) → first ≡ first_subtag tag → take (length tag - length first) (drop (length first) tag) ≡ behind_first tag
tag_split tag first same = rw same (rest_of (length (first_subtag tag)) tag)

-- ---- two bytes that are a first subtag

-- a code is not another code
alike_codes : (a b : List ℕ) → Alike a b → are_two_codes a b ≡ false
alike_codes a b alike = grind (arith, nat_tests, are_alike-decides a b)

-- nothing stands before a mark at the start
ends_marked : (rest : List ℕ) → ends_subtag rest ≡ true → (before_mark rest ≡ []) × (first_subtag rest ≡ [])
ends_marked rest ends = grind (arith, nat_tests, common_steps, marked, first_cons)

-- two bytes before an end or a mark are the first subtag
two_first :
    (a b : ℕ) (rest : List ℕ) → is_separator a ≡ false → is_separator b ≡ false → ends_subtag rest ≡ true →
    (before_mark (a ∷ b ∷ rest) ≡ a ∷ b ∷ []) × (first_subtag (a ∷ b ∷ rest) ≡ a ∷ b ∷ [])
two_first a b rest first second ends = grind (arith, nat_tests, common_steps, unmarked, ends_marked, first_cons)

-- what equal bytes that are no separators say
pair_parts :
    (a b c d : ℕ) → (((a == c) && (b == d)) && (not (is_separator a) && not (is_separator b))) ≡ true → (a ≡ c) × (b ≡ d) × (is_separator a ≡ false) × (is_separator b ≡ false)
pair_parts a b c d is = grind (arith, common_steps, and_parts, eqb-true, not-true)

-- a range and a tag whose first subtags are the same two bytes have one code
pub same_first :
    (range tag : List ℕ) → 2 ≤ length range → 2 ≤ length tag →
    (((get_or range 0 0 == get_or tag 0 0) && (get_or range 1 0 == get_or tag 1 0)) && (not (is_separator (get_or range 0 0)) && not (is_separator (get_or range 1 0)))) ≡ true →
    ends_subtag (take (length range - 2) (drop 2 range)) ≡ true → ends_subtag (take (length tag - 2) (drop 2 tag)) ≡ true → is_language_range (hyphened range) ≡ true →
    are_two_codes (first_subtag (basic_text range)) (first_subtag tag) ≡ false
same_first [] tag least some pair left rest is = absurd (omega (arith, least))
same_first (a ∷ []) tag least some pair left rest is = absurd (omega (arith, least))
same_first (a ∷ b ∷ range) [] least some pair left rest is = absurd (omega (arith, some))
same_first (a ∷ b ∷ range) (c ∷ []) least some pair left rest is = absurd (omega (arith, some))
same_first (a ∷ b ∷ range) (c ∷ d ∷ tag) least some pair left rest is = by_parts (pair_parts a b c d pair)
  where
    by_parts : (a ≡ c) × (b ≡ d) × (is_separator a ≡ false) × (is_separator b ≡ false) → are_two_codes (first_subtag (basic_text (a ∷ b ∷ range))) (first_subtag (c ∷ d ∷ tag)) ≡ false
    by_parts (same, also, first, second) =
        let own = two_first a b range first second (ap ends_subtag (sym (rest_of 2 (a ∷ b ∷ range))) ∙ left) in
        let its = two_first c d tag (subst (λ x. is_separator x ≡ false) same first) (subst (λ x. is_separator x ≡ false) also second) (ap ends_subtag (sym (rest_of 2 (c ∷ d ∷ tag))) ∙ rest) in
        let heads : a ∷ b ∷ [] ≡ c ∷ d ∷ [] = ap (λ x. x ∷ b ∷ []) same ∙ ap (λ x. c ∷ x ∷ []) also in
        alike_codes (first_subtag (basic_text (a ∷ b ∷ range))) (first_subtag (c ∷ d ∷ tag)) (ap fold_text (sym (first_read (a ∷ b ∷ range) is) ∙ own.0 ∙ heads ∙ sym its.1))

-- ---- alike texts

pub first-alike : (a b : List ℕ) → Alike a b → Alike (first_subtag a) (first_subtag b)
first-alike a b alike = sym (before_first-fold is_hyphen hyphen-fold a) ∙ ap first_subtag alike ∙ before_first-fold is_hyphen hyphen-fold b

pub one_code : (a b : List ℕ) → Alike a b → are_two_codes (first_subtag a) (first_subtag b) ≡ false
one_code a b alike = alike_codes (first_subtag a) (first_subtag b) (first-alike a b alike)

-- ---- languages are read alike

alone_or-alike : (a b : List ℕ) (f g : Fields) → Alike a b → AlikeFields f g → Alike (alone_or a f) (alone_or b g)
alone_or-alike a b f g alike same = grind (arith, nat_tests, length-fold f.script, length-fold g.script, length-fold f.region, length-fold g.region)

pub language_read-alike : (a b : List ℕ) → Alike a b → Alike (language_read a) (language_read b)
unfolding language_read
language_read-alike a b alike =
    by_options (λ o p. Alike (option_map_or (alone_or a) o a) (option_map_or (alone_or b) p b)) alike
    (λ f g same. alone_or-alike a b f g alike same) _ _ (replaced_form-alike a b alike)

pub codes-alike : (a b c d : List ℕ) → Alike a b → Alike c d → are_two_codes a c ≡ are_two_codes b d
codes-alike a b c d h k = rw (both-alike a b c d h k, both-alike _ _ _ _ (language_read-alike a b h) (language_read-alike c d k)) refl

pub behind-fold : (text : List ℕ) → behind_first (fold_text text) ≡ fold_text (behind_first text)
behind-fold text = rw (before_first-fold is_hyphen hyphen-fold text, length-fold (first_subtag text)) (drop-map _ (length (first_subtag text)) text)
