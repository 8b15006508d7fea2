-- The singletons of extensions, and the flags that say which of them were met.
use Rattle.langtag_scan.proofs.Prelude.{◌≡◌, ℕ, ◌+◌, ◌<◌, Bool, true, false, ◌==◌, List, [], ◌∷◌, length, get_or, set, take, drop, map, slice_get, slice_index, Option, refl, ap, sym, subst, ◌∙◌, arith, option_map, list_any, or-false, eqb_tells, or_right, get_or-set_at, common_steps, get_or-set_other, drop-map, slice_get-map, lowercase_ascii}
use Rattle.std.proofs.lemmas.List.Folds.{list_any_more}
use Rattle.langtag_scan.specs.Grammar.{fold_byte, is_singleton, Extension}
use Rattle.langtag_scan.proofs.Laws.{alphanumeric_below, singleton_alphanumeric}
use Rattle.langtag_place.proofs.RepeatLaws.{IsAt, IsAt-drop}
use Rattle.langtag_extension.specs.Spelling.{extension_spelling}
use Rattle.langtag_extension.proofs.ExtensionLookUp.{first_byte-spelling}

abbrev pub singletons : List Extension → List ℕ
singletons es = map (λ e. e.singleton) es

-- its singleton is the byte that the text begins with
pub record IsNextSingleton (es : List Extension) (n b : ℕ) (texts : List (List ℕ)) : Type 0 where
  pub rest : List ℕ
  pub left : drop n (singletons es) ≡ b ∷ rest
  pub later : map extension_spelling (drop (n + 1) es) ≡ texts

pub next_singleton :
    (es : List Extension) (n : ℕ) (text : List ℕ) (texts : List (List ℕ)) (b : ℕ) → map extension_spelling (drop n es) ≡ text ∷ texts →
    b ≡ slice_index text 0 → IsNextSingleton es n b texts
next_singleton es n text texts b is opens = by (drop n es) refl is
  where
    by : (left : List Extension) → drop n es ≡ left → map extension_spelling left ≡ text ∷ texts → IsNextSingleton es n b texts
    by [] at next = absurd cc
    by (e ∷ rest) at next =
        let (spelled, others) : (extension_spelling e ≡ text) × (map extension_spelling rest ≡ texts) = (cc, cc) in
        let byte : b ≡ e.singleton = opens ∙ ap (λ (t : List ℕ). slice_index t 0) (sym spelled) ∙ first_byte-spelling e in
        record {
          rest = singletons rest;
          left = drop-map (λ e. e.singleton) n es ∙ ap singletons at ∙ ap (λ c. c ∷ singletons rest) (sym byte);
          later = ap (map extension_spelling) (IsAt-drop es n e rest at).later ∙ others;
        }

-- the one at an index, by the text at that index
pub singleton_at :
    (es : List Extension) (k : ℕ) (text : Option (List ℕ)) → text ≡ slice_get (map extension_spelling es) k →
    option_map (λ (t : List ℕ). slice_index t 0) text ≡ slice_get (singletons es) k
singleton_at es k text is = grind (arith, common_steps, slice_get-map, first_byte-spelling)

-- the fold of a singleton is ASCII
pub fold_singleton-below : (b fold : ℕ) → is_singleton b ≡ true → fold ≡ fold_byte b → fold < 128
unfolding fold_byte
fold_singleton-below b fold one is = let below = lowercase_ascii b (alphanumeric_below b (singleton_alphanumeric b one)) in subst (λ c. c < 128) (sym is) below

-- the flags say which folds the bytes have
abbrev pub AreFlagsOf : List Bool → List ℕ → Type 0
AreFlagsOf flags bytes = (c : ℕ) → c < 128 → get_or flags c false ≡ list_any (λ b. c == fold_byte b) bytes

-- one more byte, and its flag is set
pub AreFlagsOf-set :
    (flags : List Bool) (bytes : List ℕ) (n b fold : ℕ) (rest : List ℕ) → IsAt bytes n b rest → length flags ≡ 128 →
    fold ≡ fold_byte b → fold < 128 → AreFlagsOf flags (take n bytes) → AreFlagsOf (set flags fold true) (take (n + 1) bytes)
AreFlagsOf-set flags bytes n b fold rest at all is below before c inside =
    grind (arith, common_steps, list_any_more, eqb_tells, get_or-set_at, or_right, get_or-set_other, or-false)

-- what the functions of repeats cite
pub ruleset flag_bounds = (fold_singleton-below)
