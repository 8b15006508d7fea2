-- Lookup for a header as a walk over its elements. Only contracts of private functions cite this page.
use Rattle.std.specs.Prelude.{ℕ, List, [], ◌∷◌, Option, None, Some, if◌then◌else◌, nat_lt}
use Rattle.langtag_scan.specs.Prelude.{option_map_or}
use Rattle.langtag_range.specs.Definitions.{Element, fallbacks}
use Rattle.langtag_c.specs.LookUp.{first_index_alike}

-- the index of the tag that an element finds, if the element's weight is greater than the given weight
abbrev pub found_above : List (Option (List ℕ)) → ℕ → Element → Option ℕ
found_above tags weight element = if nat_lt weight element.weight then first_index_alike tags (fallbacks element.range) else None

-- the index of the tag that the element of the greatest weight finds; `found` is the index that earlier elements found,
-- and `weight` is their greatest weight
abbrev pub heaviest : List (Option (List ℕ)) → List Element → Option ℕ → ℕ → Option ℕ
heaviest tags [] found weight = found
heaviest tags (element ∷ elements) found weight =
    option_map_or (λ index. heaviest tags elements (Some index) element.weight) (found_above tags weight element) (heaviest tags elements found weight)
