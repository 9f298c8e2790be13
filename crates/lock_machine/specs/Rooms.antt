-- Internal: no contract of the headline or of a command stands on it.
-- How much memory a thread has for the bytes of its reply, and how much it needs.
use Rattle.std.specs.Prelude.{◌≡◌, ◌≤◌, ℕ, Bool, true, false, not, ◌||◌}
use Rattle.sequential_object.specs.Bytes.{read_count}
use Rattle.descriptor_table.specs.Plans.{bytes_asked}
use Rattle.call_turns.specs.Patience.{turn_bytes}
use Rattle.call_turns.specs.Space.{Space}
use Rattle.lock_machine.specs.declared.thread.Phase.{Phase}
use Rattle.lock_machine.specs.declared.thread.Phase.TheVariants as phase

-- how many bytes the reply that is returned brings, at most
abbrev pub told_needed : Phase → ℕ
told_needed (phase.WantsTable call carried) = read_count call
told_needed (phase.WantsObject call carried clock object) = read_count call
told_needed (phase.ToOutside o) = bytes_asked o.errand
told_needed (phase.Outside o) = bytes_asked o.errand
told_needed (phase.Recorded o) = bytes_asked o.errand
told_needed p = 0

-- and its copy in the row, where there is room for so many in what is returned
abbrev pub row_needed : Phase → ℕ → ℕ
row_needed (phase.WantsTable call carried) told = told
row_needed (phase.WantsObject call carried clock object) told = told
row_needed (phase.Granted row object e) told = turn_bytes e
row_needed (phase.ToOutside o) told = told
row_needed (phase.Outside o) told = told
row_needed (phase.Recorded o) told = told
row_needed p told = 0

-- its call may go outside, and no outcome came yet
abbrev pub awaits_outcome : Phase → Bool
awaits_outcome (phase.WantsTable call carried) = true
awaits_outcome (phase.WantsObject call carried clock object) = true
awaits_outcome (phase.ToOutside o) = true
awaits_outcome (phase.Outside o) = true
awaits_outcome p = false

-- a thread in this phase has the room that its call needs
abbrev pub HasSpace : Phase → Space → Type 0
HasSpace p s =
    (told_needed p ≤ s.told)
    × ((row_needed p s.told ≤ s.row) × ((not (awaits_outcome p) || s.outcome) ≡ true))
