-- Extensions that are put one after the other, while their texts are walked over.
use Rattle.langtag_keyword.proofs.Common.{◌≡◌, ℕ, List, [], ◌∷◌, ◌++◌, length, map, sym, ap, ◌∙◌, arith, append-nil, flat_map-append, AllByRecursion, flat_map, SpellsExtension, extension_spelling, Output, Pushes, Extension, IsWellFormedExtension, extension_flat, pushes_both, pushes_joined, pushes_same}

-- these are the texts of some extensions, of which something holds
pub record AreLeft (Holds : List Extension → Type 0) (texts : List (List ℕ)) : Type 0 where
  pub left : List Extension
  pub spelled : texts ≡ map extension_spelling left
  pub members : AllByRecursion IsWellFormedExtension left
  pub holds : Holds left

-- the first of them, and the others
pub record Opens (Holds : List Extension → Type 0) (text : List ℕ) (texts : List (List ℕ)) : Type 0 where
  pub first : Extension
  pub spells : SpellsExtension first text
  pub others : AreLeft (λ es. Holds (first ∷ es)) texts

module _ (Holds : List Extension → Type 0) (texts : List (List ℕ)) (so_far : AreLeft Holds texts) where
  pub left-opens : (rest : List (List ℕ)) (x : List ℕ) → texts ≡ x ∷ rest → Opens Holds x rest
  left-opens rest x first = by_left so_far.left (sym first ∙ so_far.spelled) so_far.members so_far.holds
    where
      by_left : (es : List Extension) → x ∷ rest ≡ map extension_spelling es → AllByRecursion IsWellFormedExtension es → Holds es → Opens Holds x rest
      by_left [] spelled members holds = absurd cc
      by_left (e ∷ es) spelled members holds =
          record { first = e; spells = record { member = members.0; joined = cc }; others = record { left = es; spelled = cc; members = members.1; holds = holds } }

  pub left-none : texts ≡ [] → Holds []
  left-none none = by_left so_far.left so_far.spelled so_far.holds
    where
      by_left : (es : List Extension) → texts ≡ map extension_spelling es → Holds es → Holds []
      by_left [] spelled holds = holds
      by_left (e ∷ es) spelled holds = absurd (omega (arith, ap length (sym none ∙ spelled)))

module _ (put : List Extension → List (List ℕ)) (all : List (List ℕ)) (start out : Output) where
  -- what is put for those that are left comes after what was put before, and then all is put
  abbrev pub ArePut : List Extension → Type 0
  ArePut left = (new : Output) → Pushes (put left) out new → Pushes all start new

  -- one more is put
  pub left-next :
      (later : List Extension → List (List ℕ)) (here : Extension → List (List ℕ)) (texts rest : List (List ℕ)) (x : List ℕ) (out_after : Output) → texts ≡ x ∷ rest →
      AreLeft ArePut texts → ((e : Extension) (es : List Extension) → SpellsExtension e x → put (e ∷ es) ≡ here e ++ later es) →
      ((e : Extension) → SpellsExtension e x → Pushes (here e) out out_after) → AreLeft (λ left. (new : Output) → Pushes (later left) out_after new → Pushes all start new) rest
  left-next later here texts rest x out_after first so_far step is_put =
      let o = left-opens ArePut texts so_far rest x first in
      let es = o.others.left in
      record {
        left = es;
        spelled = o.others.spelled;
        members = o.others.members;
        holds = λ new those. o.others.holds new (pushes_same _ _ out new (sym (step o.first es o.spells)) (pushes_both (here o.first) (later es) out out_after new (is_put o.first o.spells) those));
      }

-- the text of an extension is its subtags
pub extension-pushed : (e : Extension) (text bytes : List ℕ) (old new : Output) → SpellsExtension e text → bytes ≡ text → Pushes (bytes ∷ []) old new → Pushes (extension_flat e) old new
extension-pushed e text bytes old new spells is these =
    pushes_joined (e.singleton ∷ []) e.subtags old new (omega arith) (pushes_same _ _ old new (ap (λ t. t ∷ []) (is ∙ sym spells.joined)) these)

pub flat-last : (es : List Extension) (e : Extension) → flat_map extension_flat (es ++ e ∷ []) ≡ flat_map extension_flat es ++ extension_flat e
flat-last es e = flat_map-append extension_flat es (e ∷ []) ∙ ap (λ ss. flat_map extension_flat es ++ ss) (append-nil (extension_flat e))
