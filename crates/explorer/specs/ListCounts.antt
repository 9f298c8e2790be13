-- Internal: no contract of the headline or of a command stands on it.
-- How many lists of delays there are.
use Rattle.std.specs.Prelude.{ℕ, zero, suc, ◌+◌, ◌*◌, Bool, if◌then◌else◌}

-- the lists of two delays at so many places: of each place with each after it
abbrev pub pair_count : ℕ → ℕ → ℕ
pair_count reach zero = 0
pair_count reach (suc rest) = reach * (rest * reach) + pair_count reach rest

-- all lists
abbrev pub list_count : ℕ → ℕ → Bool → ℕ
list_count places reach two =
    places * reach + (if two then pair_count reach places else 0) + 1
