-- Internal: no contract of the headline or of a command stands on it.
-- Which threads are live: by their phases, and by their clocks.
use Rattle.std.specs.Prelude.{◌≡◌, List, map, Bool, true, false}
use Rattle.logical_clocks.specs.declared.clocks.ThreadClock.{ThreadClock}
use Rattle.lock_machine.specs.declared.thread.Phase.{Phase}
use Rattle.lock_machine.specs.declared.thread.Phase.TheVariants as phase
use Rattle.lock_machine.specs.declared.thread.Thread.{Thread}

-- a thread in this phase has not ended
abbrev pub is_live : Phase → Bool
is_live phase.Ended = false
is_live p = true

-- of each thread whether it is live, by its phase
abbrev pub lives : List Thread → List Bool
lives threads = map (λ (t : Thread). is_live t.phase) threads

-- both say the same of each thread
abbrev pub Agree : List Thread → List ThreadClock → Type 0
Agree threads clocks = map (λ (c : ThreadClock). c.live) clocks ≡ lives threads
