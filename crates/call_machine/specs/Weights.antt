-- Internal: no contract of the headline or of a command stands on it.
-- How much a script can still do with its thread: a number that falls with each of the thread's
-- events.
use Rattle.std.specs.Prelude.{ℕ, ◌+◌, ◌-◌, ◌*◌, ◌^◌, ◌<◌, ◌≤◌, List, [], ◌∷◌, Bool, true, false}
use Rattle.std.specs.Prelude.{if◌then◌else◌}
use Rattle.thread_scripts.specs.Meaning.{lines_left}
use Rattle.call_machine.specs.declared.players.Player.{Player}
use Rattle.lock_machine.specs.declared.thread.Phase.{Phase}
use Rattle.lock_machine.specs.declared.thread.Phase.TheVariants as phase
use Rattle.lock_machine.specs.Threads.{Thread}

-- by the lines that its script has left, of which a stuck one reads none
abbrev pub left_in : Phase → Bool → ℕ → ℕ
left_in phase.Working stuck lines = if stuck then 0 else 2 * lines + 1
left_in (phase.WantsTable call carried) stuck lines = 2 * lines + 2
left_in (phase.WantsObject call carried clock object) stuck lines = 2 * lines + 2
left_in (phase.Granted row object ends) stuck lines = 2 * lines + 2
left_in (phase.ToOutside outing) stuck lines = 2 * lines + 5
left_in (phase.Outside outing) stuck lines = 2 * lines + 4
left_in (phase.Recorded outing) stuck lines = 2 * lines + 3
left_in (phase.Blocked carried) stuck lines = 2 * lines + 3
left_in phase.Ended stuck lines = 0

-- how much a script can still do with its thread
unfoldable pub weight : Thread → Player → ℕ
weight t p = 4 * (2 ^ 62 - t.clock) + left_in t.phase p.stuck (lines_left p.actor)

-- how much all scripts together can still do with their threads
abbrev pub total : List Thread → List Player → ℕ
total [] players = 0
total (t ∷ threads) [] = 0
total (t ∷ threads) (p ∷ players) = weight t p + total threads players

-- an event that is made lowers it
abbrev pub Falls : Bool → List Thread → List Player → List Thread → List Player → Type 0
Falls true threads players later players_then = total later players_then < total threads players
Falls false threads players later players_then = total later players_then ≤ total threads players
