-- How wide the group of regions is for which a tag was written, such as `en-150` for Europe.
use Rattle.std.specs.Prelude.{◌≡◌, ◌<◌, ◌==◌, ◌&&◌, ◌||◌, ℕ, Bool, if◌then◌else◌, List, [], ◌∷◌, MatchOption, Option, codes, length, slice_index_or}
use Rattle.langtag_scan.specs.Grammar.{are_alike, option_map_or}
use Rattle.langtag_text.specs.Fields.{Fields}
use Rattle.langtag_cldr.specs.Definitions.{matching_form}
use Rattle.langtag_choice.specs.Distance.{is_among}
use Rattle.langtag_choice.specs.MatchingData.{region_groups}
use Rattle.langtag_choice.specs.RegionGroup.{RegionGroup, no_group}

-- the width of the world, which has all regions: more than that of any group
abbrev pub world_width : ℕ
world_width = 999

-- the width of what is no group with the range's region, such as a country: more than that of the world
abbrev pub no_group_width : ℕ
no_group_width = 1000

-- the width of a code outside the list of groups, which is the world or a country
abbrev pub width_unlisted : List ℕ → ℕ
width_unlisted code = if are_alike (codes "001") code then world_width else no_group_width

-- the number of regions in a group, if a region is in it
abbrev pub width_of : RegionGroup → List ℕ → ℕ
width_of group region = if is_among group.regions region then length group.regions else no_group_width

-- the width of a code for a region, among these groups
abbrev pub width_among : List RegionGroup → List ℕ → List ℕ → ℕ
width_among [] region code = width_unlisted code
width_among (group ∷ groups) region code = if are_alike group.code code then width_of group region else width_among groups region code

-- the region of a form, which is empty if there is no form
abbrev pub region_in : Option Fields → List ℕ
region_in form = option_map_or (λ f. f.region) form []

-- the width of the group that a tag's form names as its region, for the region of a range's form
unfoldable pub width_of_forms : Option Fields → Option Fields → ℕ
width_of_forms desired supported = width_among region_groups (region_in desired) (region_in supported)

-- how many regions the tag's group of regions has, if the range's region is in it
unfoldable pub region_width : List ℕ → List ℕ → ℕ
region_width range tag = width_of_forms (matching_form range) (matching_form tag)

-- the group with a code is at this index, or no group of the list has the code; only the contract of a private function cites this definition
abbrev pub IsGroupIndex : List ℕ → Option ℕ → Type 0
IsGroupIndex code answer =
    MatchOption answer ((region : List ℕ) → width_among region_groups region code ≡ width_unlisted code)
    (λ index. (index < length region_groups) × ((region : List ℕ) → width_among region_groups region code ≡ width_of (slice_index_or region_groups index no_group) region))

-- whether two lowercase letters are the code of a group: EU, EZ, QO or UN; only the contract of a private function cites this definition
abbrev pub is_letter_group : ℕ → ℕ → Bool
is_letter_group first second =
    ((first == 101) && ((second == 117) || (second == 122))) || (((first == 113) && (second == 111)) || ((first == 117) && (second == 110)))
