-- Which tags may serve a range of a reader, and which serves better.
use Rattle.std.specs.Prelude.{◌≡◌, ℕ, ◌-◌, Bool, false, not, ◌==◌, ◌&&◌, ◌||◌, if◌then◌else◌, List, [], ◌∷◌, nat_lt}
use Rattle.langtag_scan.specs.Prelude.{slice_cmp, is_gt, nat_cmp}
use Rattle.langtag_choice.specs.AsRead.{lost_as_read}
use Rattle.langtag_choice.specs.Distance.{distance_of_texts}
use Rattle.langtag_choice.specs.Nearness.{kept, lost, unlikely}
use Rattle.langtag_choice.specs.RegionWidth.{region_width}
use Rattle.langtag_choice.specs.Transformed.{unasked_transform}
use Rattle.langtag_choice.specs.Variants.{lacking}
use Rattle.langtag_range.specs.Definitions.{Element, is_star}

abbrev pub is_excluded : Element → Bool
is_excluded element = element.weight == 0

abbrev pub is_wish : Element → Bool
is_wish element = not (is_excluded element)

-- the distance from a range to a tag, where all distances from 50 on count as 50
unfoldable pub reach : List ℕ → List ℕ → ℕ
reach range tag = if nat_lt (distance_of_texts range tag) 50 then distance_of_texts range tag else 50

-- whether the distance from a range to a tag is below 50, or lookup of the range finds the tag
abbrev pub may_serve : List ℕ → List ℕ → Bool
may_serve range tag = nat_lt (reach range tag) 50 || nat_lt 0 (kept range tag)

-- whether a tag may serve a range that has a weight above 0 and is not "*"
unfoldable pub serves : Element → List ℕ → Bool
serves element tag = is_wish element && (not (is_star element.range) && may_serve element.range tag)

-- ---- which pair of a range and a tag is better

-- how well a tag serves a range: best at a distance below 16, then at a distance below 50, and then if only lookup
-- finds the tag. Limits that differ a little would give the same result, since no distance is from 15 to 19 or from 45
-- to 49
abbrev pub service : ℕ → ℕ
service distance = if nat_lt distance 16 then 0 else if nat_lt distance 50 then 1 else 2

-- what decides among tags at one distance from a range: how many variants of the range the tag lacks, whether it is a
-- translation for which the range does not ask, how many bytes lookup removes from the range (all if it does not find the tag),
-- first if it reads the languages as CLDR replaces them and then as they are written, how wide the tag's group of regions is if it
-- has the region of the range, how unlikely the region of the tag is, and the index of the tag
abbrev pub ties : List ℕ → List ℕ → ℕ → List ℕ
ties range tag index =
    lacking range tag ∷ unasked_transform range tag ∷ lost_as_read range tag ∷ lost range tag ∷ region_width range tag ∷ unlikely tag ∷ index ∷ []

-- the rank of a tag for a range, as a list of numbers: how well the tag serves the range, 1 minus the weight of the range in
-- thousandths, the number of ranges before the range, the distance, and what decides among tags at this distance
unfoldable pub rank : ℕ → Element → ℕ → List ℕ → List ℕ
rank place element index tag =
    service (reach element.range tag) ∷ (1000 - element.weight) ∷ place ∷ reach element.range tag ∷ ties element.range tag index

-- a rank is at most another rank: the first number in which they differ decides
abbrev pub IsAtMost : List ℕ → List ℕ → Type 0
IsAtMost a b = is_gt (slice_cmp nat_cmp a b) ≡ false
