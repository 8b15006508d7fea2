-- A language is cut at its first hyphen into its primary subtag and its extension.
use Rattle.langtag_scan.proofs.Prelude.{◌≡◌, ℕ, ◌+◌, ◌<◌, ◌≤◌, IsTrue, List, [], ◌∷◌, ◌++◌, length, slice_index, take, drop, get_or, refl, sym, ap, ◌∙◌, arith, take-append-drop, drop_more, slice_split_none, slice_split_at, length-slice_split, leb-true, le-leb, and_parts, common_steps, slice_range}
use Rattle.langtag_scan.specs.Grammar.{is_primary, is_extended, is_hyphen, segments, subtags, NoHyphenWithin, IsHyphenFree}
use Rattle.langtag_language.specs.Language.{IsLanguageExtension}
use Rattle.langtag_language.specs.Decided.{is_language}
use Rattle.langtag_language.proofs.Rules.{IsLanguageExtension-from_test}

-- the first subtag ends at the first hyphen
segments_cut :
    (text : List ℕ) (end : ℕ) → end < length text → NoHyphenWithin text 0 end → get_or text end 0 ≡ 45 →
    segments text ≡ take end text ∷ segments (drop (end + 1) text)
segments_cut text end below free hyphen =
    let kept : IsHyphenFree (take end text) = grind (arith, common_steps) in
    let cut : text ≡ take end text ++ 45 ∷ drop (end + 1) text =
    sym (take-append-drop end text) ∙ ap (λ rest. take end text ++ rest) (drop_more text end 0 below ∙ ap (λ b. b ∷ drop (end + 1) text) hyphen) in
    ap segments cut ∙ slice_split_at is_hyphen (take end text) 45 (drop (end + 1) text) kept refl

subtags_some : (text : List ℕ) → IsTrue (is_language text) → subtags text ≡ segments text
subtags_some text h = grind (arith, common_steps)

-- a language without a hyphen
pub record IsAlone (text : List ℕ) : Type 0 where
  pub primary : IsTrue (is_primary text)
  pub list : subtags text ≡ text ∷ []

pub language_alone :
    (text bytes : List ℕ) (end : ℕ) → IsTrue (is_language text) → bytes ≡ text → NoHyphenWithin bytes 0 end → end ≡ length text →
    IsAlone text
language_alone text bytes end h same free whole = grind (arith, common_steps, subtags_some, slice_split_none, and_parts)

-- a language with one
pub record IsCut (text primary rest : List ℕ) : Type 0 where
  pub primary_class : IsTrue (is_primary primary)
  pub extension : IsLanguageExtension rest
  pub list : subtags text ≡ primary ∷ subtags rest

pub language_cut :
    (text bytes : List ℕ) (end : ℕ) → IsTrue (is_language text) → bytes ≡ text → end ≤ length bytes → NoHyphenWithin bytes 0 end →
    (end < length bytes → slice_index bytes end ≡ 45) → (end ≡ length text → ⊥) →
    IsCut text (slice_range text 0 end) (drop (end + 1) text)
unfolding is_extended
language_cut text bytes end h same within free hyphen more = grind (arith, common_steps, subtags_some text h, segments_cut text end, length-slice_split, leb-true, le-leb, and_parts, IsLanguageExtension-from_test)
