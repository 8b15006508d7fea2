-- Which subtags a subtag should follow (RFC 5646 section 3.1.8). This is only a recommendation, and valid tags need not
-- follow it.
use Rattle.std.specs.Prelude.{ℕ, Bool, true, List, [], ◌∷◌, ◌++◌, Option, None, Some, if◌then◌else◌}
use Rattle.langtag_scan.specs.Grammar.{list_any, option_map_or, are_alike, Record, spell}
use Rattle.langtag_range.specs.Definitions.{test_extended}
use Rattle.langtag_fields.specs.Entry.{values_for}
use Rattle.langtag_fields.specs.Fields.{extlang_prefix}
use Rattle.langtag_fields.specs.Subtags.{variant_prefixes}

-- whether one of the prefixes matches a text by extended filtering (RFC 4647 section 3.3.2), or there are no prefixes
abbrev pub some_matches : List (List ℕ) → List ℕ → Bool
some_matches [] text = true
some_matches (first ∷ others) text = list_any (λ prefix. test_extended prefix text) (first ∷ others)

-- whether a variant may follow a text by the Prefix fields of the variant
unfoldable pub fits_after : List ℕ → List ℕ → Bool
fits_after text variant = some_matches (values_for variant_prefixes variant) text

-- the record with these variants, and without the parts after the variants
abbrev pub up_to : Record → List (List ℕ) → Record
up_to r variants = record r { variants = variants; extensions = []; private_use = None }

-- the first of these variants that does not fit after the text before it, if the variants in `before` precede them
abbrev pub misplaced_after : Record → List (List ℕ) → List (List ℕ) → Option (List ℕ)
misplaced_after r before [] = None
misplaced_after r before (variant ∷ others) =
    if fits_after (spell (up_to r before)) variant then misplaced_after r (before ++ variant ∷ []) others else Some variant

-- the first variant of a record that does not fit after the text before it
abbrev pub misplaced : Record → Option (List ℕ)
misplaced r = misplaced_after r [] r.variants

-- the first extended language, if its Prefix is not the language before it. A second extended language, which no valid
-- tag has, is not checked
abbrev pub misplaced_extlang : List ℕ → List (List ℕ) → Option (List ℕ)
misplaced_extlang primary [] = None
misplaced_extlang primary (extlang ∷ others) =
    if option_map_or (λ prefix. are_alike prefix primary) (extlang_prefix extlang) true then None else Some extlang
