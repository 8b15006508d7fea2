-- The tables have what the lists say, and what is appended keyword by keyword.
use Rattle.langtag_keyword.proofs.Common.{◌≡◌, ℕ, ◌<◌, List, [], ◌∷◌, ◌++◌, length, take, get_or, flat_map, map, refl, sym, ap, ◌∙◌, append_assoc, append-nil, take_more, flat_map-append}
use Rattle.langtag_scan.proofs.Prelude.{arith, false, length-append}
use Rattle.langtag_scan.specs.Grammar.{fold_byte}
use Rattle.langtag_posix.specs.KeywordNames.{are_keywords, key_named, key_names, keyword_text, type_named, type_names}
use Rattle.langtag_posix.specs.declared.keyword_names.TheConstants.{KEY_NAMES, TYPE_NAMES}

pub key_rows : map (λ row. record { old = row.0.now; new = row.1.now }) KEY_NAMES ≡ key_names
unfolding key_names
key_rows = refl

pub type_rows : map (λ row. record { key = row.0.now; old = row.1.now; new = row.2.now }) TYPE_NAMES ≡ type_names
unfolding type_names
type_rows = refl

-- an empty modifier has none
pub no_keywords : (modifier : List ℕ) → length modifier ≡ 0 → are_keywords modifier ≡ false
unfolding key_named key_names type_named type_names fold_byte
no_keywords [] none = refl
no_keywords (b ∷ modifier) none = absurd cc

-- ---- keyword by keyword

-- the items with the next one
module _ {X : Type 0} (all : List (List ℕ)) (yielded : List X) (x : X) (item : List ℕ) (below : length yielded < length all) (at : item ≡ get_or all (length yielded) item) where
  take_next : take (length (yielded ++ x ∷ [])) all ≡ take (length yielded) all ++ item ∷ []
  take_next = ap (λ n. take n all) (length-append yielded (x ∷ [])) ∙ take_more all (length yielded) item below ∙ ap (λ i. take (length yielded) all ++ i ∷ []) (sym at)

  pub appended_next :
      (text : List ℕ) →
      (text ++ flat_map keyword_text (take (length yielded) all)) ++ keyword_text item ≡ text ++ flat_map keyword_text (take (length (yielded ++ x ∷ [])) all)
  appended_next text =
      grind (arith, append_assoc, append-nil, take_next, flat_map-append keyword_text (take (length yielded) all) (item ∷ []))
