-- The answer to a line: its kind, and its parts.
use Rattle.std.specs.Prelude.{◌≡◌, ℕ, Bool, ◌||◌, if◌then◌else◌, Option, Some, is_some, unwrap_or, List, [], ◌++◌, map, slice_get, codes}
use Rattle.langtag_scan.specs.Grammar.{are_alike, irregular_texts, language_part, variants_part, extensions_part, private_use_part, Record, Spells, IsPrivate, IsIrregularAt, IsTag}
use Rattle.langtag.specs.Definitions.{repeat, are_alike_bytes}

-- the text of a part, which is empty if the part is absent
abbrev pub part_or_nothing : Option (List ℕ) → List ℕ
part_or_nothing part = unwrap_or part []

-- whether a variant or a singleton occurs twice in the tag, ignoring case (RFC 5646 section 2.2.9)
abbrev pub has_repeats : Record → Bool
has_repeats r = is_some (repeat are_alike r.variants) || is_some (repeat are_alike_bytes (map (λ e. e.singleton) r.extensions))

abbrev pub yes_or_no : Bool → List ℕ
yes_or_no b = if b then codes "yes" else codes "no"

-- the answer to a normal tag: its parts, and whether it has repeats
abbrev pub normal_answer : Record → List ℕ
normal_answer r =
    codes "normal language=" ++ language_part r
    ++ codes " script=" ++ part_or_nothing r.script
    ++ codes " region=" ++ part_or_nothing r.region
    ++ codes " variants=" ++ variants_part r
    ++ codes " extensions=" ++ extensions_part r
    ++ codes " private=" ++ part_or_nothing (private_use_part r)
    ++ codes " repeats=" ++ yes_or_no (has_repeats r)

-- the answer to a line depends on its kind: a normal tag with the record that spells it, a private use tag, an
-- irregular tag in its registered spelling, or no tag
pub data IsShowAnswer (line : List ℕ) (text : List ℕ) : Type 0 where
  normal : (r : Record) → Spells r line → text ≡ normal_answer r → IsShowAnswer line text
  private_use : IsPrivate line → text ≡ codes "private " ++ line → IsShowAnswer line text
  irregular :
      (k : ℕ) (registered : List ℕ) → IsIrregularAt k line → slice_get irregular_texts k ≡ Some registered →
      text ≡ codes "irregular " ++ registered → IsShowAnswer line text
  refused : ¬ (IsTag line) → text ≡ codes "refused" → IsShowAnswer line text
