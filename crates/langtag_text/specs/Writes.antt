-- A text that is written into a buffer, if there is room for it.
use Rattle.std.specs.Prelude.{◌≡◌, ℕ, ◌<◌, ◌≤◌, List, ◌++◌, length, drop}

-- some text for which `IsSo` holds has this length. If it fits, it is at the start of the buffer, and the rest is
-- unchanged; if not, the whole buffer is unchanged
pub record Writes (IsSo : List ℕ → Type 0) (before after : List ℕ) (len : ℕ) : Type 0 where
  pub text : List ℕ
  pub is_so : IsSo text
  pub whole : len ≡ length text
  pub written : len ≤ length before → after ≡ text ++ drop len before
  pub untouched : length before < len → after ≡ before
