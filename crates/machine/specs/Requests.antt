-- Believed: a contract of the headline stands on it.
-- What threads ask outside.
use Rattle.std.specs.Prelude.{◌≡◌, ℕ, Option, Some, None, is_some, true}
use Rattle.descriptor_table.specs.declared.plan.Errand.{Errand}
use Rattle.lock_machine.specs.Refusals.{phase_at}
use Rattle.lock_machine.specs.Whole.{Whole}
use Rattle.lock_machine.specs.declared.thread.Outing.{Outing}
use Rattle.lock_machine.specs.declared.thread.Phase.{Phase}
use Rattle.lock_machine.specs.declared.thread.Phase.TheVariants as phase
use Rattle.lock_model.specs.Held.{job_in}
use Rattle.lock_model.specs.State.{Job, State, thread_of}
use Rattle.sequential_object.specs.Step.{asks}
use Rattle.posix_terms.specs.Queries.{requested_at}
use Rattle.posix_terms.specs.declared.request.Request.{Request}
use Rattle.posix_terms.specs.declared.transcript.Turn.{Turn}
use Rattle.machine.specs.Runs.{IsEnd}

-- the call with which a thread goes outside, or is outside
abbrev pub out_of : Phase → Option Outing
out_of (phase.ToOutside o) = Some o
out_of (phase.Outside o) = Some o
out_of p = None

-- what a thread that is outside asked for there
abbrev pub awaited : Phase → Option Errand
awaited (phase.Outside o) = Some o.errand
awaited p = None

-- thread i goes outside, or is there, and this is what its call asks by the definition of the
-- calls, at its turn, whichever run leads to the machine; or it goes nowhere
abbrev pub IsRequest : Whole → ℕ → Option Request → Type 0
IsRequest w i None = out_of (phase_at w i) ≡ None
IsRequest w i (Some r) =
    (is_some (out_of (phase_at w i)) ≡ true)
    × ((s : State) (job : Job) → IsEnd w s → job_in (thread_of s i).phase ≡ Some job
    → requested_at job.turn (asks job.found.object job.call job.carried) ≡ Some r)

-- and this is the turn at which that call was granted
abbrev pub IsOutsideTurn : Whole → ℕ → Option Turn → Type 0
IsOutsideTurn w i None = out_of (phase_at w i) ≡ None
IsOutsideTurn w i (Some turn) =
    (is_some (out_of (phase_at w i)) ≡ true)
    × ((s : State) (job : Job) → IsEnd w s → job_in (thread_of s i).phase ≡ Some job
    → job.turn ≡ turn)
