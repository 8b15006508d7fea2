use Rattle.langtag_scan.proofs.Prelude.{◌≡◌, ℕ, ◌-◌, List, [], ◌∷◌, ◌++◌, length, Option, Some, MatchOption, refl, arith, slice_get, option_map, length_push, common_steps}
use Rattle.langtag_place.specs.declared.variant.Variant.{Variant}
use Rattle.langtag_place.specs.Text.{variant_text, variants_text, variants_left}
use Rattle.langtag_place.proofs.Rules.{subtags-spelled}
use Rattle.langtag_place.proofs.variants.Variants.last.Goals as goal

-- the element that stands after a prefix, at the prefix's length
slice_get-push : {X : Type 0} (prefix : List X) (last : X) → slice_get (prefix ++ last ∷ []) (length prefix) ≡ Some last
slice_get-push [] last = refl
slice_get-push (x ∷ prefix) last = slice_get-push prefix last

-- what was taken from the end of a list was its last member
option_map-taken :
    (taken : Option Variant) (list rest : List (List ℕ)) →
    MatchOption taken ((list ≡ []) × (rest ≡ [])) (λ variant. list ≡ rest ++ variant_text variant ∷ []) →
    option_map variant_text taken ≡ slice_get list (length list - 1)
option_map-taken taken list rest h = grind (arith, common_steps, length_push rest, slice_get-push rest)

pub returns : goal.returns
returns c = record {
  member = λ variants spells.
      rw (← subtags-spelled variants (variants_text c.args.self.now) spells, ← c.iter.ensures.list)
      (option_map-taken c.next_back.result (variants_left c.iter.result) (variants_left c.next_back.new.self) c.next_back.ensures.steps);
}
