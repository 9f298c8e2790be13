-- Internal: no contract of the headline or of a command stands on it.
-- Which call goes outside next, where they go in the order of the turns.
use Rattle.std.specs.Prelude.{ℕ, Bool, true, false, not, nat_lt, List, map, Option, Some, None}
use Rattle.lock_machine.specs.Threads.{Thread}
use Rattle.lock_machine.specs.declared.thread.Outing.{Outing}
use Rattle.lock_machine.specs.declared.thread.Phase.{Phase}
use Rattle.lock_machine.specs.declared.thread.Phase.TheVariants as phase
use Rattle.machine.specs.Finishing.{all_true}
use Rattle.machine.specs.Requests.{out_of}

-- a call that goes outside, or is there, lets that with this row go where it was not granted before
abbrev pub lets_go : ℕ → Option Outing → Bool
lets_go row None = true
lets_go row (Some o) = not (nat_lt o.row row)

-- no thread has a call outside, or about to go there, that was granted before this row
abbrev pub all_let_go : ℕ → List Thread → Bool
all_let_go row threads = all_true (map (λ (t : Thread). lets_go row (out_of t.phase)) threads)

-- a thread at this phase is about to go outside, and each call that was granted before its own and
-- goes outside has its record
abbrev pub may_go : List Thread → Phase → Bool
may_go threads (phase.ToOutside o) = all_let_go o.row threads
may_go threads p = false
