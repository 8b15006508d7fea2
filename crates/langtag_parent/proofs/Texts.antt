-- Texts that are cut at their hyphens, and texts in pieces.
use Rattle.langtag_scan.proofs.Prelude.{◌≡◌, ℕ, ◌≤◌, true, false, List, [], ◌∷◌, ◌++◌, length, map, drop, flat_map, Option, IfSome, nat_lt, Bor, MatchOption, refl, ap, arith, append_assoc, append-nil, length-append, option_map_or, All-head, All-tail, common_steps, nat_tests}
use Rattle.langtag_scan.specs.Grammar.{IsHyphenFree, IsWellFormed, ends_of, Record, extension_flat, one_flat, spell, is_hyphen}
use Rattle.langtag_scan.proofs.Laws.{join-append, drop-join, ends_in_order}
use Rattle.langtag_text.specs.Fields.{Fields, subtag_of}
use Rattle.langtag.specs.Definitions.{base_record}
use Rattle.langtag_likely.specs.Marked.{as_read}
use Rattle.langtag_likely.proofs.MarkLaws.{read_keeps}
use Rattle.langtag_parent.specs.Chain.{endings, hyphenated, rest_of, shorter, text_of}

-- ---- without the last subtag

pub shorter_free : (text : List ℕ) → IsHyphenFree text → shorter text ≡ []
shorter_free [] free = refl
shorter_free (b ∷ text) free = grind (arith, common_steps, All-head (λ c. is_hyphen c ≡ false) b text free, shorter_free text (All-tail (λ c. is_hyphen c ≡ false) b text free))

shorter_at : (prefix last : List ℕ) → IsHyphenFree last → shorter (prefix ++ 45 ∷ last) ≡ prefix ∷ shorter prefix
shorter_at [] last free = ap (λ list. map (λ t. 45 ∷ t) list ++ [] ∷ []) (shorter_free last free)
shorter_at (b ∷ prefix) last free = rw (shorter_at prefix last free) refl

pub shorter_last :
    (text last : List ℕ) (prefix : Option (Bor (List ℕ))) → IsHyphenFree last → MatchOption prefix (text ≡ last) (λ f. text ≡ f.now ++ 45 ∷ last) →
    shorter text ≡ option_map_or (λ f. f.now ∷ shorter f.now) prefix []
shorter_last text last prefix free is = grind (arith, shorter_free last free, shorter_at)

pub no_longer :
    (text last : List ℕ) (prefix : Option (Bor (List ℕ))) → MatchOption prefix (text ≡ last) (λ f. text ≡ f.now ++ 45 ∷ last) → IfSome prefix (λ f. length f.now ≤ length text)
no_longer text last prefix is = grind (arith, length-append)

-- ---- one ending after another

pub endings_first : (variants rest : List ℕ) → nat_lt (length variants) (length rest) ≡ true → endings variants rest ≡ rest ∷ endings variants variants
endings_first variants rest fewer = grind (arith, nat_tests)

pub endings_next :
    (variants rest : List ℕ) (o : Option (Bor (List ℕ))) → nat_lt (length variants) (length rest) ≡ false →
    shorter rest ≡ option_map_or (λ t. t.now ∷ shorter t.now) o [] → IfSome o (λ t. length t.now ≤ length rest) →
    endings variants rest ≡ rest ∷ option_map_or (λ t. endings variants t.now) o []
endings_next variants rest o enough is fewer = grind (arith, nat_tests)

-- ---- after the region

pub region_inside : (r : Record) → (ends_of r).region ≤ length (spell r)
region_inside r = grind (arith, ends_in_order r)

pub rest_is : (r : Record) → drop (ends_of r).region (spell r) ≡ rest_of r
rest_is r = grind (arith, nat_tests, flat_map extension_flat r.extensions, drop-join r.primary (r.extended ++ (one_flat r.script ++ one_flat r.region)), append_assoc)

pub variants_are : (r : Record) → rest_of (base_record r) ≡ hyphenated r.variants
variants_are r = ap hyphenated (append-nil r.variants)

-- the same stands there as the tag is read
pub read_rest : (r : Record) → rest_of (as_read r) ≡ rest_of r
read_rest r = let kept = read_keeps r in rw (kept.variants, kept.extensions, kept.private_use) refl

pub read_variants : (r : Record) → hyphenated (as_read r).variants ≡ hyphenated r.variants
read_variants r = ap hyphenated (read_keeps r).variants

-- ---- a text in pieces

pub text_in_pieces :
    (f : Fields) (before_script before_region rest : List ℕ) →
    before_script ++ f.script ≡ hyphenated (one_flat (subtag_of f.script)) → before_region ++ f.region ≡ hyphenated (one_flat (subtag_of f.region)) →
    f.language ++ (before_script ++ (f.script ++ (before_region ++ (f.region ++ (rest ++ []))))) ≡ text_of f rest
text_in_pieces f before_script before_region rest script_is region_is =
    grind (arith, append-nil, append_assoc, join-append f.language (one_flat (subtag_of f.script)) (one_flat (subtag_of f.region)), join-append f.language [] (one_flat (subtag_of f.script)))

pub whole_is : (text : List ℕ) → text_of (record { language = text; script = []; region = [] }) [] ≡ text
whole_is text = append-nil text

-- ---- without extensions and private use

pub base_well : (r : Record) → IsWellFormed r → IsWellFormed (base_record r)
base_well r well = grind (arith, common_steps)
