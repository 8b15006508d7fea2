-- The variants of `GrandfatheredLangTag` and `GRANDFATHERED`, beside the table of registered tags.
use Rattle.langtag_scan.proofs.Prelude.{◌≡◌, ℕ, true, List, [], length, slice_get, Some, ap, ◌∙◌, arith, ◌<◌, ◌≤◌, cond, ltb, map, get_or, Option, None, refl, sym, subst, position, position_or_len, slice_get_within, get_or_from_slice_get, slice_get-get_or, slice_get-map, common_steps, option_map_or, lt-ltb, cases_lt, both_ways, get_or-map, position-Some, fails_before_first, nat_tests}
use Rattle.std.proofs.Common.{zero-add, bytes_eq}
use Rattle.std.specs.List.{range_with_len}
use Rattle.langtag_scan.specs.Grammar.{Alike, are_alike, fold_byte, fold_text, are_alike-decides, irregular_texts, Grandfathered, grandfathered_tags, IsIrregular, IsIrregularAt, IsNormal, IsTag, is_letter, is_primary, EachRecord, segments}
use Rattle.std.proofs.lemmas.List.FromFn.{get_or-range_with_len}
use Rattle.langtag_scan.proofs.CaseLaw.{alike_tag}
use Rattle.langtag_scan.proofs.NormalTexts.{spelled_segments}
use Rattle.langtag_scan.proofs.IrregularTexts.{normal_no_irregular, registered_tag}
use Rattle.langtag.specs.Definitions.{IsLanguage, index_of, text_of, language_of, IsGrandfatheredAt, IsGrandfathered}
use Rattle.langtag.specs.declared.grandfathered.GrandfatheredLangTag.{GrandfatheredLangTag}
use Rattle.langtag.specs.declared.grandfathered.GrandfatheredLangTag.TheVariants.{EnGbOed}
use Rattle.langtag.specs.declared.grandfathered.TheConstants.{GRANDFATHERED}

-- ---- the table

-- the registered spelling at an index
abbrev text_at : ℕ → List ℕ
text_at k = get_or (map (λ entry. entry.text) grandfathered_tags) k []

length-grandfathered_tags : length grandfathered_tags ≡ 26
unfolding grandfathered_tags
length-grandfathered_tags = refl

abbrev nothing : Grandfathered
nothing = record { text = []; language = None }

text_at_entry : (k : ℕ) → k < 26 → text_at k ≡ (get_or grandfathered_tags k nothing).text
text_at_entry k lt = get_or-map (λ entry. entry.text) grandfathered_tags k nothing [] (omega (arith, length-grandfathered_tags))

-- a text is the one at an index where it is alike that spelling
pub grandfathered_at : (k : ℕ) (t : List ℕ) → k < 26 → Alike (text_at k) t → IsGrandfatheredAt k t
unfolding IsGrandfatheredAt
grandfathered_at k t lt alike = grind (arith, common_steps, slice_get-get_or grandfathered_tags k nothing, length-grandfathered_tags, text_at_entry k lt)

pub alike_at : (k : ℕ) (t : List ℕ) → IsGrandfatheredAt k t → (k < 26) × Alike (text_at k) t
unfolding IsGrandfatheredAt
alike_at k t h = grind (arith, common_steps, length-grandfathered_tags, slice_get_within, text_at_entry, get_or_from_slice_get)

-- the registered spellings, folded
abbrev folded : List (List ℕ)
folded = map (λ entry. fold_text entry.text) grandfathered_tags

-- where a text stands first among them
abbrev first_index : List ℕ → ℕ
first_index t = position_or_len (bytes_eq t) folded

-- ---- the variants

-- the variant in `GRANDFATHERED` at an index is the one that is declared there
indices : map index_of GRANDFATHERED ≡ range_with_len 0 26
indices = refl

pub index_listed : (k : ℕ) (d : GrandfatheredLangTag) → k < 26 → index_of (get_or GRANDFATHERED k d) ≡ k
index_listed k d lt = grind (arith, common_steps, get_or-map index_of GRANDFATHERED k d 0 lt, indices, get_or-range_with_len 0 26 k 0 lt, zero-add k)

-- each variant stands in `GRANDFATHERED` at its index
pub listed : (tag : GrandfatheredLangTag) → slice_get GRANDFATHERED (index_of tag) ≡ Some tag
listed tag = grind (arith, common_steps)

-- what is equal at each member of a list is equal at one
pub at_member : {A B : Type 0} (f g : A → B) (xs : List A) (k : ℕ) (x : A) → slice_get xs k ≡ Some x → map f xs ≡ map g xs → f x ≡ g x
at_member f g xs k x at same = grind (arith, nat_tests, slice_get-map f xs k, slice_get-map g xs k)

-- each spelling stands first at its own index
first_of : (tag : GrandfatheredLangTag) → first_index (fold_text (text_of tag)) ≡ index_of tag
unfolding grandfathered_tags fold_byte
first_of tag = at_member (λ t. first_index (fold_text (text_of t))) index_of GRANDFATHERED (index_of tag) tag (listed tag) refl

index_from_fold : (k : ℕ) → k < 26 → first_index (fold_text (text_at k)) ≡ k
index_from_fold k lt = subst (λ i. first_index (fold_text (text_at i)) ≡ i) (index_listed k EnGbOed lt) (first_of (get_or GRANDFATHERED k EnGbOed))

-- no text is at two indices
pub one_index : (j k : ℕ) (t : List ℕ) → IsGrandfatheredAt j t → IsGrandfatheredAt k t → j ≡ k
one_index j k t h g = grind (arith, common_steps, alike_at j t h, alike_at k t g, index_from_fold j, index_from_fold k)

-- ---- the lookup

past_end : (n m : ℕ) → cond (ltb n m) (Some n) None ≡ None → m ≤ n
past_end n m none = grind (arith, common_steps, cases_lt n m, lt-ltb n m)

-- the first tag that is alike is the one at its index
pub first_alike_found : (t : List ℕ) (k : ℕ) → position (λ tag. are_alike (text_of tag) t) GRANDFATHERED ≡ Some k → IsGrandfatheredAt k t
first_alike_found t k found =
    let tag : GrandfatheredLangTag = get_or GRANDFATHERED k EnGbOed in
    let at = position-Some (λ tag. are_alike (text_of tag) t) GRANDFATHERED k EnGbOed found in
    let index : index_of tag ≡ k = index_listed k EnGbOed at.0 in
    grandfathered_at k t at.0 (ap (λ i. fold_text (text_at i)) (sym index) ∙ (are_alike-decides (text_of tag) t).0 at.1)

-- and where none is, there is none
pub none_alike : (t : List ℕ) → position (λ tag. are_alike (text_of tag) t) GRANDFATHERED ≡ None → IsGrandfathered t → ⊥
unfolding IsGrandfathered
none_alike t none (k, at) =
    let here = alike_at k t at in
    let is : Alike (text_of (get_or GRANDFATHERED k EnGbOed)) t = ap (λ i. fold_text (text_at i)) (index_listed k EnGbOed here.0) ∙ here.1 in
    let fails = fails_before_first (λ tag. are_alike (text_of tag) t) GRANDFATHERED k EnGbOed (omega (arith, here.0, past_end _ 26 none)) in
    both_ways _ fails ((are_alike-decides (text_of (get_or GRANDFATHERED k EnGbOed)) t).1 is)

-- ---- they are tags

pub grandfathered_tag : (t : List ℕ) → IsGrandfathered t → IsTag t
unfolding IsGrandfathered IsGrandfatheredAt
grandfathered_tag t (k, here) = alike_tag here.0.text t here.2 (registered_tag k here.0 here.1)

-- so is each with its registered spelling
pub spelling_tag : (tag : GrandfatheredLangTag) → IsTag (text_of tag)
unfolding IsGrandfathered
spelling_tag tag =
    let within : index_of tag < 26 = slice_get_within GRANDFATHERED (index_of tag) tag (listed tag) in
    grandfathered_tag (text_of tag) (index_of tag, grandfathered_at (index_of tag) (text_of tag) within refl)

pub grandfathered_alike : (a b : List ℕ) → Alike a b → IsGrandfathered a → IsGrandfathered b
unfolding IsGrandfathered IsGrandfatheredAt
grandfathered_alike a b alike (k, (entry, at, same)) = (k, (entry, at, same ∙ alike))

-- ---- the languages

-- each language of the table is a primary subtag
primary_registered : (tag : GrandfatheredLangTag) → option_map_or is_primary (language_of tag) true ≡ true
unfolding grandfathered_tags is_primary is_letter
primary_registered tag = grind (arith, common_steps)

-- so it is a language
pub language_registered : (tag : GrandfatheredLangTag) (text : List ℕ) → language_of tag ≡ Some text → IsLanguage text
language_registered tag text same = grind (arith, common_steps, primary_registered tag)

-- ---- the language of a regular tag is the primary subtag of its record

-- the first subtag of a text
abbrev first_subtag : List ℕ → Option (List ℕ)
first_subtag text = slice_get (segments text) 0

irregular_at_index : (tag : GrandfatheredLangTag) → slice_get irregular_texts (index_of tag) ≡ cond (ltb (index_of tag) 17) (Some (text_of tag)) None
unfolding grandfathered_tags irregular_texts
irregular_at_index tag = grind (arith, nat_tests, at_member, ltb)

language_at_index : (tag : GrandfatheredLangTag) → language_of tag ≡ cond (ltb (index_of tag) 17) None (first_subtag (text_of tag))
unfolding grandfathered_tags
language_at_index tag = grind (arith, nat_tests, at_member language_of, ltb)

pub registered_primary : (tag : GrandfatheredLangTag) → EachRecord (text_of tag) (λ r. language_of tag ≡ Some r.primary)
unfolding IsNormal IsIrregular IsIrregularAt
registered_primary tag r spells = grind (arith, nat_tests, irregular_at_index tag, language_at_index tag, normal_no_irregular (text_of tag), spelled_segments r)
