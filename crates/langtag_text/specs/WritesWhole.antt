-- A text that is written into a buffer, of which nothing is said if there is no room for the text: what snprintf promises.
use Rattle.std.specs.Prelude.{◌≡◌, ℕ, ◌-◌, ◌^◌, ◌≤◌, List, ◌++◌, length, drop, min}

-- some text for which `IsSo` holds has this length, which is counted up to 2^64 - 1. If the text fits, it is at the start
-- of the buffer, and the rest is unchanged
pub record WritesWhole (IsSo : List ℕ → Type 0) (before after : List ℕ) (len : ℕ) : Type 0 where
  pub text : List ℕ
  pub is_so : IsSo text
  pub whole : len ≡ min (length text) (2 ^ 64 - 1)
  pub written : length text ≤ length before → after ≡ text ++ drop (length text) before
