-- What is known of refusals while the ranges are read. Only contracts of private functions cite this page.
use Rattle.std.specs.Prelude.{◌≡◌, ◌+◌, ℕ, Bool, true, List, Option, Some, false, max, slice_get, slice_index_or}
use Rattle.langtag_range.specs.Definitions.{Element}
use Rattle.langtag_choice.specs.Best.{longest}
use Rattle.langtag_choice.specs.Serves.{is_excluded, is_wish}
use Rattle.langtag_choice.specs.declared.refused.Longest.{Longest}

-- the lengths are those of the longest ranges that match a tag, among the ranges before the others
pub record IsLongestBefore (elements others : List Element) (tag : List ℕ) (found : Longest) : Type 0 where
  pub wishes : max found.wanted (longest is_wish others tag) ≡ longest is_wish elements tag
  pub zeros : max found.refused (longest is_excluded others tag) ≡ longest is_excluded elements tag

-- the lengths before any range is read
abbrev pub nothing_read : Longest
nothing_read = record { wanted = 0; refused = 0 }

-- the lengths are so for each flagged entry that is a tag; the first flag and the first lengths are those of the entry at `start`
abbrev pub AreLongestBefore : List Element → List Element → List (Option (List ℕ)) → ℕ → List Bool → List Longest → Type 0
AreLongestBefore elements others tags start flags found =
    (k : ℕ) (tag : List ℕ) → slice_index_or flags k false ≡ true → slice_get tags (start + k) ≡ Some (Some tag) →
    IsLongestBefore elements others tag (slice_index_or found k nothing_read)
