-- Believed: a contract of the headline stands on it.
-- Doors to an outside that is a list of outcomes.
use Rattle.std.specs.Prelude.{◌≡◌, ℕ, ◌≤◌, Bool, true, false, List, length, slice_get, Some, Result}
use Rattle.std.specs.Prelude.{Ok, Err, IfOk}
use Rattle.posix_terms.specs.Outcomes.{answers, fits}
use Rattle.posix_terms.specs.declared.outcome.Given.{Given}
use Rattle.posix_terms.specs.declared.outcome.Outcome.{Outcome}
use Rattle.posix_terms.specs.declared.outcome.Outcome.TheVariants as outcome
use Rattle.posix_terms.specs.declared.errno.Errno.TheVariants as errno
use Rattle.posix_terms.specs.declared.request.Request.{Request}
use Rattle.host_doors.specs.declared.stop.DoorStop.{DoorStop}
use Rattle.host_doors.specs.declared.stop.DoorStop.TheVariants as stop
use Rattle.host_doors.specs.declared.counts.Counts.{Counts}
use Rattle.host_doors.specs.Counting.{counted}

-- a list of outcomes, how many were given and were failures, and the gate before it
pub record OutcomeList (G : Type 0) : Type 0 where
  pub list : List Given
  pub counts : Counts
  pub gate : G

-- the list has this outcome at this number, and it answers the request
pub record IsListed (list : List Given) (number : ℕ) (request : Request) (o : Outcome) : Type 0
  where
    pub entry : Given
    pub at : slice_get list number ≡ Some entry
    pub answer : answers request entry ≡ true
    pub outcome : entry.outcome ≡ o

-- why the list gives no outcome of this number: it ends
-- before, it has another request's there, or there
-- was no memory for a copy
abbrev pub Stops : List Given → ℕ → Request → DoorStop → Type 0
Stops list number request stop.EndOfLog = length list ≤ number
Stops list number request stop.Diverged = (entry : Given) × (slice_get list number ≡ Some entry)
    × (answers request entry ≡ false)
Stops list number request stop.Memory = (entry : Given) × (slice_get list number ≡ Some entry)
    × (answers request entry ≡ true)

-- where the gate let the call in, the outcome is the list's; elsewhere the call timed out
abbrev pub Chosen : Bool → List Given → ℕ → Request → Result Outcome DoorStop → Type 0
Chosen true list number request (Ok o) = IsListed list number request o
Chosen true list number request (Err s) = Stops list number request s
Chosen false list number request result = result ≡ Ok (outcome.Fail errno.ETIMEDOUT)

-- an outcome is counted, and where there is none all is as before; the list stays
abbrev pub Counted : {G : Type 0} → OutcomeList G → OutcomeList G → Result Outcome DoorStop → Type 0
Counted old new (Ok o) = (new.list ≡ old.list) × (new.counts ≡ counted old.counts o)
Counted old new (Err s) = new ≡ old

-- what a call of a thread gives, by the answer of a gate that may answer so
pub record Gives {G : Type 0} (may_answer : G → ℕ → ℕ → Bool → G → Type 0) (thread number : ℕ)
    (request : Request) (old new : OutcomeList G) (result : Result Outcome DoorStop) : Type 0 where
  pub entered : Bool
  pub gate : may_answer old.gate thread number entered new.gate
  pub chosen : Chosen entered old.list number request result
  pub fits : IfOk result (λ o. fits request.kind request.asked o ≡ true)
  pub counted : Counted old new result
