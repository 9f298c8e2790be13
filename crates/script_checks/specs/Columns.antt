-- Believed: a contract of a command stands on it.
-- Where in a line something stands: a column, in bytes, from 1.
use Rattle.std.specs.Prelude.{◌≡◌, ℕ, ◌+◌, ◌-◌, ◌≤◌, List, length, slice_range}

-- a column of a line, or the one after its last byte
abbrev pub IsColumn : List ℕ → ℕ → Type 0
IsColumn line column = (1 ≤ column) × (column ≤ length line + 1)

-- these bytes stand in the line from this column on, and there is one at least
pub record IsWordOf (line word : List ℕ) (column : ℕ) : Type 0 where
  pub some : 1 ≤ length word
  pub from : 1 ≤ column
  pub within : column + length word ≤ length line + 1
  pub there : word ≡ slice_range line (column - 1) (column - 1 + length word)
