-- Believed: a contract of the headline stands on it.
-- How much memory is set aside for the bytes of a reply.
use Rattle.std.specs.Prelude.{◌≡◌, ◌≤◌, ℕ, Bool, true, false, ◌||◌, Option, Some, None}
use Rattle.sequential_object.specs.Bytes.{read_count}
use Rattle.descriptor_table.specs.Plans.{bytes_asked}
use Rattle.posix_terms.specs.Calls.{Call}
use Rattle.call_turns.specs.Patience.{turn_bytes}
use Rattle.call_turns.specs.declared.patience.TurnStart.{TurnStart}
use Rattle.call_turns.specs.declared.patience.TurnStart.TheVariants as start

-- so many bytes for the reply that is given, and for its copy in the row; and whether there is
-- room for an outcome in the row
pub record Space : Type 0 where
  pub told : ℕ
  pub row : ℕ
  pub outcome : Bool

-- no memory for bytes, and no room for an outcome
abbrev pub no_space : Space
no_space = record { told = 0; row = 0; outcome = false }

-- with another in its place, if there is one: what room there is for an outcome stays
abbrev pub changed : Option Space → Space → Space
changed None s = s
changed (Some other) s = record other { outcome = other.outcome || s.outcome }

-- as much as a call needs
abbrev pub HasSpaceFor : Call → Space → Type 0
HasSpaceFor call s = (read_count call ≤ s.told) × (s.told ≤ s.row) × (s.outcome ≡ true)

-- what a turn leaves of it: for the copy of its reply, or for what comes from outside
abbrev pub LeavesSpace : TurnStart → Space → Type 0
LeavesSpace (start.Ended e) s = turn_bytes e ≤ s.row
LeavesSpace (start.GoesOut errand) s =
    (bytes_asked errand ≤ s.told) × (s.told ≤ s.row) × (s.outcome ≡ true)
