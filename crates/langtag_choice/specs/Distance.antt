-- The distance from a desired tag to a supported tag (UTS #35, part 1, section 'Language Matching'). It is the sum of
-- the distances of the languages, the scripts and the regions of their matching forms.
use Rattle.std.specs.Prelude.{◌≡◌, ℕ, ◌+◌, ◌==◌, Bool, false, ◌&&◌, ◌||◌, not, List, [], ◌∷◌, Option, None, Some, codes, if◌then◌else◌}
use Rattle.langtag_scan.specs.Grammar.{Alike, are_alike}
use Rattle.langtag_cldr.specs.Definitions.{are_alike_fields, language_alone, without_region, matching_form}
use Rattle.langtag_text.specs.Fields.{Fields}
use Rattle.langtag_choice.specs.MatchingData.{language_rules, script_rules, maghreb_inside, maghreb_partly, en_us_inside, en_us_partly, americas_inside, americas_partly, cnsar_inside, cnsar_partly}
use Rattle.langtag_choice.specs.Rules.{distance_by}

-- ---- languages and scripts

-- the distance of two languages: 0 if they are equal, and otherwise the distance of the rule for them, or 80 if there
-- is no rule
unfoldable pub language_distance : Fields → Fields → ℕ
language_distance desired supported =
    if are_alike desired.language supported.language then 0 else distance_by language_rules 80 (language_alone desired) (language_alone supported)

-- the distance of two scripts: 0 if they are equal, and otherwise the distance of the rule for them and their
-- languages, or 50 if there is no rule
unfoldable pub script_distance : Fields → Fields → ℕ
script_distance desired supported =
    if are_alike desired.script supported.script then 0 else distance_by script_rules 50 (without_region desired) (without_region supported)

-- ---- regions

abbrev pub is_among : List (List ℕ) → List ℕ → Bool
is_among [] text = false
is_among (word ∷ words) text = are_alike word text || is_among words text

-- a set of regions: `inside` has its regions, and the groups whose countries are all in the set; `partly` has the
-- groups with only some countries in the set
pub record RegionSet : Type 0 where
  pub inside : List (List ℕ)
  pub partly : List (List ℕ)

-- whether a region is in the complement of a set, which CLDR writes as `$!`: none of its countries is in the set
abbrev pub is_outside : RegionSet → List ℕ → Bool
is_outside set region = not (is_among set.inside region) && not (is_among set.partly region)

-- whether two regions are both in a set, or both in its complement
abbrev pub on_one_side : RegionSet → List ℕ → List ℕ → Bool
on_one_side set a b = (is_among set.inside a && is_among set.inside b) || (is_outside set a && is_outside set b)

-- the distance of two regions by a set: 4 if both are in the set or both in its complement, and otherwise 5
abbrev pub by_side : RegionSet → List ℕ → List ℕ → ℕ
by_side set a b = if on_one_side set a b then 4 else 5

unfoldable pub maghreb : RegionSet
maghreb = record { inside = maghreb_inside; partly = maghreb_partly }

unfoldable pub en_us : RegionSet
en_us = record { inside = en_us_inside; partly = en_us_partly }

unfoldable pub americas : RegionSet
americas = record { inside = americas_inside; partly = americas_partly }

unfoldable pub cnsar : RegionSet
cnsar = record { inside = cnsar_inside; partly = cnsar_partly }

-- whether the first region is the United Kingdom, and the second is in the complement of $enUS
abbrev pub is_british : List ℕ → List ℕ → Bool
is_british a b = are_alike (codes "GB") a && is_outside en_us b

-- the distance of two regions for English: a region outside the United States' set is nearer to the United Kingdom than
-- to other regions
abbrev pub english : List ℕ → List ℕ → ℕ
english a b = if is_british a b || is_british b a then 3 else by_side en_us a b

-- the distance of two different regions for one language
abbrev pub by_language : Fields → Fields → ℕ
by_language desired supported =
    if are_alike (codes "ar") desired.language then by_side maghreb desired.region supported.region
    else if are_alike (codes "en") desired.language then english desired.region supported.region
    else if are_alike (codes "es") desired.language || are_alike (codes "pt") desired.language then by_side americas desired.region supported.region
    else if are_alike (codes "zh") desired.language && (are_alike (codes "Hant") desired.script && are_alike (codes "Hant") supported.script)
    then by_side cnsar desired.region supported.region
    else 4

unfoldable pub region_distance : Fields → Fields → ℕ
region_distance desired supported =
    if are_alike desired.region supported.region then 0
    else if are_alike desired.language supported.language then by_language desired supported
    else 4

-- ---- the distance of two texts

-- the distance of two matching forms, which is at most 134
abbrev pub fields_distance : Fields → Fields → ℕ
fields_distance desired supported = language_distance desired supported + (script_distance desired supported + region_distance desired supported)

-- the distance of two texts if one of them has no matching form: 0 if they are equal, ignoring case, and otherwise 255
abbrev pub formless_distance : List ℕ → List ℕ → ℕ
formless_distance desired supported = if are_alike desired supported then 0 else 255

abbrev pub distance_of_forms : List ℕ → List ℕ → Option Fields → Option Fields → ℕ
distance_of_forms desired supported None form = formless_distance desired supported
distance_of_forms desired supported (Some a) None = formless_distance desired supported
distance_of_forms desired supported (Some a) (Some b) = fields_distance a b

-- the distance from a desired text to a supported text
unfoldable pub distance_of_texts : List ℕ → List ℕ → ℕ
distance_of_texts desired supported = distance_of_forms desired supported (matching_form desired) (matching_form supported)

-- ---- laws

-- whether two matching forms are equal, ignoring case; if a text has no matching form, whether the texts are equal
abbrev pub are_alike_forms : List ℕ → List ℕ → Option Fields → Option Fields → Bool
are_alike_forms desired supported None form = are_alike desired supported
are_alike_forms desired supported (Some a) None = are_alike desired supported
are_alike_forms desired supported (Some a) (Some b) = are_alike_fields a b

-- the distance is 0 if and only if the matching forms are equal
abbrev pub ZeroIfEqual : List ℕ → List ℕ → ℕ → Type 0
ZeroIfEqual desired supported distance =
    (distance == 0) ≡ are_alike_forms desired supported (matching_form desired) (matching_form supported)

-- all pairs of texts that equal the two given texts, ignoring case, have the same distance
abbrev pub DistanceIgnoresCase : List ℕ → List ℕ → ℕ → Type 0
DistanceIgnoresCase desired supported distance = (d s : List ℕ) → Alike desired d → Alike supported s → distance_of_texts d s ≡ distance
