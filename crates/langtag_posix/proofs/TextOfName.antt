-- The text of a name, by the parts that the code cuts out of it.
use Rattle.langtag_scan.proofs.Prelude.{◌≡◌, ℕ, ◌≤◌, ◌-◌, ◌^◌, List, ◌++◌, length, drop, take, ap, refl, sym, ◌∙◌, arith, take_at}
use Rattle.std.specs.Prelude.{min}
use Rattle.langtag_text.specs.Output.{IsCounted}
use Rattle.langtag_range.specs.Definitions.{front_of}
use Rattle.langtag_posix.proofs.Definitions.{are_keywords, extensions_behind, keywords_text, marked, may_follow, modifier_of, place_of, place_read, read_place, text_of_name, without_java_field}

-- the parts of a name
pub record IsCutName (name p e m : List ℕ) : Type 0 where
  pub place : p ≡ place_read name
  pub extensions : e ≡ extensions_behind (front_of name)
  pub modifier : m ≡ modifier_of name

pub cut_name :
    (name place read front extensions modifier kept : List ℕ) → place ≡ place_of name → read ≡ read_place place → front ≡ front_of name → modifier ≡ modifier_of name →
    extensions ≡ extensions_behind front → kept ≡ without_java_field read extensions → IsCutName name kept extensions modifier
unfolding place_read
cut_name name place read front extensions modifier kept is_place is_read is_front is_modifier is_extensions is_kept =
    rw (is_kept, is_extensions, is_modifier, is_front, is_read, is_place) (record { place = refl; extensions = refl; modifier = refl })

-- the text that the code writes
abbrev pub written_text : List ℕ → List ℕ → List ℕ → List ℕ
written_text place extensions modifier = (place ++ marked 45 extensions) ++ keywords_text modifier

module _ (name place extensions modifier : List ℕ) (cut : IsCutName name place extensions modifier) where
  pub cut_text : written_text place extensions modifier ≡ text_of_name name
  unfolding text_of_name
  cut_text = rw (cut.place, cut.extensions, cut.modifier) refl

  pub cut_follows : may_follow place extensions (are_keywords modifier) ≡ may_follow (place_read name) (extensions_behind (front_of name)) (are_keywords (modifier_of name))
  cut_follows = rw (cut.place, cut.extensions, cut.modifier) refl

-- ---- what was counted

pub few_counted : (n len : ℕ) → len ≡ min n (2 ^ 64 - 1) → (len ≤ 260 → len ≡ n) × (n ≤ 260 → len ≤ 260)
few_counted n len counted = grind arith

pub counted_cut : (text before after : List ℕ) (len : ℕ) → IsCounted text before after len → len ≤ 260 → 260 ≤ length before → take len after ≡ text
counted_cut text before after len counted few room =
    let size = (few_counted (length text) len counted.counted).0 few in
    ap (take len) (counted.written (omega (arith, size, few, room))) ∙ take_at text (drop (length text) before) len (sym size)
