-- The variants of texts as they are read, and how many of a range's variants a tag lacks.
use Rattle.langtag_scan.proofs.Prelude.{◌≡◌, ℕ, true, false, not, cond, List, [], ◌∷◌, ◌++◌, refl, sym, ap, ◌∙◌, arith, length, map, filter, before_first, after_first, nat_tests, length-map, append_assoc, common_steps, list_any, or-true, bytes_eq, bytes_decides}
use Rattle.langtag_scan.specs.Grammar.{Alike, are_alike, fold_text, is_single, is_variant, subtags}
use Rattle.langtag_scan.proofs.CaseLaw.{classes-fold, fold_text-twice, length-fold, subtags-fold}
use Rattle.langtag_range.specs.Definitions.{basic_text, hyphened, is_language_range, is_separator}
use Rattle.langtag_range.proofs.AlikeTexts.{hyphened-fold}
use Rattle.langtag_range.proofs.BasicForms.{basic_of, hyphened_range}
use Rattle.langtag_range.proofs.WantedTexts.{cut_or_whole, segments-read}
use Rattle.langtag_cldr.specs.Definitions.{counted, counts}
use Rattle.langtag_cldr.proofs.CommonTexts.{next_part}
use Rattle.langtag_choice.specs.Variants.{lacking, missing, text_variants, variant_parts, variants_among, variants_of, variants_of_subtags}
use Rattle.langtag_choice.proofs.AlikeDistances.{counted-fold}
use Rattle.langtag_choice.proofs.FarTags.{counted_plain, read_subtags}

-- ---- as they are read

pub first_off : (text : List ℕ) → text_variants text ≡ cond (is_single (before_first is_separator text)) [] (variant_parts (after_first is_separator text))
first_off text = grind (arith, common_steps, cut_or_whole is_separator text, segments-read text)

variant_counts : (s : List ℕ) → is_variant s ≡ true → counts s ≡ true
unfolding is_variant
variant_counts s is = grind (arith, nat_tests, common_steps)

variant_long : (s : List ℕ) → is_variant s ≡ true → is_single s ≡ false
unfolding is_variant
variant_long s is = grind (arith, nat_tests, common_steps)

-- the first variant, and those of the rest
pub next_variant :
    (text : List ℕ) → is_variant (before_first is_separator text) ≡ true → variant_parts text ≡ before_first is_separator text ∷ variant_parts (after_first is_separator text)
next_variant text is = grind (arith, common_steps, next_part text, variant_counts, variant_long)

-- ---- in lowercase

variant-fold : (s : List ℕ) → is_variant (fold_text s) ≡ is_variant s
variant-fold s = ap (λ classes. classes.variant) (classes-fold s)

among-fold : (ss : List (List ℕ)) → variants_among (map fold_text ss) ≡ map fold_text (variants_among ss)
among-fold [] = refl
among-fold (s ∷ ss) = grind (arith, common_steps, length-fold s, variant-fold s, among-fold ss)

text_folded : (text : List ℕ) → variants_of text ≡ map fold_text (text_variants text)
unfolding variants_of
text_folded text =
    grind (arith, nat_tests, common_steps, hyphened-fold, subtags-fold, hyphened, length-fold, counted-fold, among-fold, counted)

-- ---- of a range

range_folded : (range : List ℕ) → is_language_range (hyphened range) ≡ true → variants_of (basic_text range) ≡ map fold_text (text_variants range)
unfolding basic_text
range_folded range is =
    let basic = read_subtags variants_of_subtags (λ first others. rw (counted_plain others) refl) (hyphened range) is in
    grind (arith, nat_tests, common_steps, text_folded, hyphened, hyphened_range, basic_of, basic)

pub range_count : (range : List ℕ) → is_language_range (hyphened range) ≡ true → length (variants_of (basic_text range)) ≡ length (text_variants range)
range_count range is = ap length (range_folded range is) ∙ length-map (text_variants range) fold_text

-- ---- those that a tag lacks

-- how many of some variants are not among others, as they are read
abbrev pub missing_parts : List (List ℕ) → List (List ℕ) → ℕ
missing_parts wanted others = length (filter (λ variant. not (list_any (are_alike variant) others)) wanted)

any-fold : (variant : List ℕ) (others : List (List ℕ)) → list_any (bytes_eq (fold_text variant)) (map fold_text others) ≡ list_any (are_alike variant) others
any-fold variant [] = refl
any-fold variant (first ∷ others) = rw (any-fold variant others) refl

missing-fold : (wanted others : List (List ℕ)) → missing (map fold_text wanted) (map fold_text others) ≡ missing_parts wanted others
missing-fold [] others = refl
missing-fold (variant ∷ wanted) others = grind (arith, common_steps, any-fold variant others, missing-fold wanted others)

pub missing_count : (range tag : List ℕ) → is_language_range (hyphened range) ≡ true → lacking (basic_text range) tag ≡ missing_parts (text_variants range) (text_variants tag)
unfolding lacking
missing_count range tag is = rw (range_folded range is, text_folded tag) (missing-fold (text_variants range) (text_variants tag))

missing_all : (wanted : List (List ℕ)) → missing wanted [] ≡ length wanted
missing_all [] = refl
missing_all (variant ∷ wanted) = rw (missing_all wanted) refl

-- a tag without variants lacks all
pub lacking_all : (range tag : List ℕ) → text_variants tag ≡ [] → lacking range tag ≡ length (variants_of range)
unfolding lacking
lacking_all range tag none = rw (text_folded tag, none) (missing_all (variants_of range))

-- none is lacking if there is none
pub lacking_nothing : (range tag : List ℕ) → length (variants_of range) ≡ 0 → lacking range tag ≡ 0
unfolding lacking
lacking_nothing range tag none = grind (arith, nat_tests, common_steps)

-- ---- laws

pub lacking-fold : (range tag : List ℕ) → lacking (fold_text range) (fold_text tag) ≡ lacking range tag
unfolding lacking variants_of
lacking-fold range tag = rw (fold_text-twice range, fold_text-twice tag) refl

any_here : (variant : List ℕ) (front back : List (List ℕ)) → list_any (bytes_eq variant) (front ++ variant ∷ back) ≡ true
any_here variant [] back = rw ((bytes_decides variant variant).1 refl) refl
any_here variant (first ∷ front) back = rw (any_here variant front back) (or-true (bytes_eq variant first))

missing_part : (front back : List (List ℕ)) → missing back (front ++ back) ≡ 0
missing_part front [] = refl
missing_part front (variant ∷ back) =
    rw (any_here variant front back) (ap (missing back) (sym (append_assoc front (variant ∷ []) back)) ∙ missing_part (front ++ variant ∷ []) back)

-- a tag that is the range lacks none of its variants
pub lacking-none : (range tag : List ℕ) → Alike range tag → lacking range tag ≡ 0
unfolding lacking variants_of
lacking-none range tag alike = rw (sym alike) (missing_part [] (variants_of_subtags (subtags (hyphened (fold_text range)))))
