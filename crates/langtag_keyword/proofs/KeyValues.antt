-- The places of the keys that begin with one character.
use Rattle.std.proofs.lemmas.Grind.{common_steps}
use Rattle.langtag_keyword.proofs.Common.{◌≡◌, ℕ, ◌<◌, ◌≤◌, Bool, true, ◌==◌, ◌&&◌, List, [], ◌∷◌, length, get_or, Option, None, option_map, arith, and_parts, IsSubtag, are_alike, is_alphanumeric, fold_byte, join, value_of}
use Rattle.std.proofs.Common.{Bor}
use Rattle.langtag_keyword.specs.KeySets.{place_of}
use Rattle.langtag_keyword.proofs.KeySetLaws.{place-tells}

-- a key that begins with a character has the place of its second character
pub place-found :
    (opens : List ℕ → Bool) (first second place : ℕ) (s : List ℕ) → IsSubtag s → 2 ≤ length s → length s < 3 → fold_byte (get_or s 0 0) ≡ fold_byte first → opens s ≡ true →
    place ≡ place_of (get_or s 1 0) → is_alphanumeric second ≡ true → (place == place_of second) ≡ (opens s && are_alike s (first ∷ second ∷ []))
place-found opens first second place s is some few same key at other = grind (arith, common_steps, and_parts, place-tells)

module _ (opens : List ℕ → Bool) (ss : List (List ℕ)) where
  -- the values of the keys that begin with `first`
  abbrev pub AreValues : ℕ → List (Option (Bor (List ℕ))) → Type 0
  AreValues first values =
      (second : ℕ) → is_alphanumeric second ≡ true → option_map (λ v. v.now) (get_or values (place_of second) None) ≡ option_map join (value_of opens (first ∷ second ∷ []) ss)

  pub value-at :
      (values : List (Option (Bor (List ℕ)))) (key : List ℕ) (first place : ℕ) → IsSubtag key → length key ≡ 2 → first ≡ get_or key 0 0 → place ≡ place_of (get_or key 1 0) → AreValues first values →
      option_map (λ v. v.now) (get_or values place None) ≡ option_map join (value_of opens key ss)
  value-at values key first place is two begins at all = grind (arith, common_steps, and_parts)
