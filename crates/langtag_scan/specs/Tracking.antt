-- What the number of a state in the tables says about the bytes that were read. Only contracts of private functions
-- cite this page.
use Rattle.std.specs.Prelude.{◌≡◌, ℕ, ◌<◌, ◌==◌, ◌||◌, not, ⊤, Bool, true, List, [], length, slice_index, slice_index_or, is_some}
use Rattle.langtag_scan.specs.Prelude.{option_map_or}
use Rattle.langtag_scan.specs.Position.{Begun, Position, position_of, possible_index}
use Rattle.langtag_scan.specs.States.{states_of, states_along}
use Rattle.langtag_scan.specs.declared.state.Ending.{Ending}
use Rattle.langtag_scan.specs.declared.state.Ending.TheVariants.{Normal}
use Rattle.langtag_scan.specs.declared.states.TheConstants as table

-- the state after one more byte, which has this class
abbrev pub next_number : ℕ → ℕ → ℕ
next_number class number = slice_index (slice_index_or table.TABLES.now.next class []) number

-- the number of the state for the subtag that is being read, or `NONE` if no such subtag may follow the stage
abbrev pub begun_number : Begun → ℕ
begun_number s = slice_index_or (states_of s.stage s.kind) s.size table.NONE

-- the number of the state for the bytes with which an irregular tag begins
abbrev pub irregular_number : List ℕ → ℕ
irregular_number p = option_map_or (λ k. slice_index (slice_index_or states_along k []) (length p)) (possible_index p) table.NONE

abbrev pub state_of : Position → ℕ
state_of p = option_map_or irregular_number p.irregular (option_map_or begun_number p.begun table.NONE)

-- whether some bytes lead to this position
abbrev pub is_reached : Position → Bool
is_reached p = is_some p.irregular || option_map_or (λ s. not (begun_number s == table.NONE)) p.begun true

-- the index of the last part of a normal tag is one of the six indices in `Ends`
abbrev pub IsPlace : Ending → Type 0
IsPlace (Normal place) = place < 6
IsPlace _ = ⊤

-- `number` is the number of the state for the position after the bytes q
pub record Stands (q : List ℕ) (number : ℕ) : Type 0 where
  pub reached : is_reached (position_of q) ≡ true
  pub is : number ≡ state_of (position_of q)
