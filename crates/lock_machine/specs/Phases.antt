-- Believed: a contract of the headline stands on it.
-- Which phase of the lock machine a thread's phase shows.
use Rattle.std.specs.Prelude.{◌≡◌, ℕ, Some}
use Rattle.lock_model.specs.CallTable.{Way}
use Rattle.lock_model.specs.Held.{object_in}
use Rattle.lock_model.specs.State as lock
use Rattle.lock_model.specs.State.{Job, State, thread_of}
use Rattle.lock_model.specs.State.Phase.{Working, WantsTable, WantsObject, Granted, ToOutside}
use Rattle.lock_model.specs.State.Phase.{Outside, Recorded, Blocked, Ended}
use Rattle.sequential_object.specs.Step.{asks}
use Rattle.posix_terms.specs.Calls.{Call}
use Rattle.lock_machine.specs.Conditions.{Conditions}
use Rattle.lock_machine.specs.Shows.{Shows}
use Rattle.lock_machine.specs.Whole.{Whole, thread_at}
use Rattle.lock_machine.specs.declared.thread.Outing.{Outing}
use Rattle.lock_machine.specs.declared.thread.Phase.{Phase}
use Rattle.lock_machine.specs.declared.thread.Phase.TheVariants as phase

-- of a granted call that goes outside: the object whose lock it holds, what it carries from its
-- blocked turns, and what it asks
pub record ShowsOuting (o : Outing) (job : Job) : Type 0 where
  pub object : o.object ≡ object_in job.plan
  pub carried : o.carried ≡ job.carried
  pub request : asks job.found.object job.call job.carried
      ≡ Some (record { kind = o.errand.kind; asked = o.errand.asked; call = job.call })

-- it has the same name, with the call and the object where it has them
abbrev pub ShowsPhase : Phase → lock.Phase → Type 0
ShowsPhase phase.Working p = p ≡ Working
ShowsPhase (phase.WantsTable call carried) p = p ≡ WantsTable call carried
ShowsPhase (phase.WantsObject call carried clock object) p =
    (way : Way) × (p ≡ WantsObject call carried clock object way)
ShowsPhase (phase.Granted row object ends) p =
    (job : Job) × ((p ≡ Granted job) × (object ≡ object_in job.plan))
ShowsPhase (phase.ToOutside o) p = (job : Job) × ((p ≡ ToOutside job) × ShowsOuting o job)
ShowsPhase (phase.Outside o) p = (job : Job) × ((p ≡ Outside job) × ShowsOuting o job)
ShowsPhase (phase.Recorded o) p = (job : Job) × ((p ≡ Recorded job) × ShowsOuting o job)
ShowsPhase (phase.Blocked carried) p = (call : Call) × (p ≡ Blocked call carried)
ShowsPhase phase.Ended p = p ≡ Ended

-- each thread is in the phase that it has in the state
abbrev pub PhasesShown : Type 0
PhasesShown = (terms : Conditions) (w : Whole) (s : State) → Shows terms w s → (i : ℕ)
    → ShowsPhase (thread_at w i).phase (thread_of s i).phase
